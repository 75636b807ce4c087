use Rattle.std.proofs.Common.{◌≡◌}
use Rattle.command_words.specs.Parts.{parts_of}
use Rattle.command_words.proofs.RefusalLemmas.{passed_up, token_too_long}
use Rattle.command_words.proofs.people.token_words.Goals as goal

pub returns-in_err-span-clause-refused : goal.returns-in_err-span-clause-refused
returns-in_err-span-clause-refused c =
    let at_time : c.deref-4.result.now ≡ c.args.parted.now.options.items = c.deref-4.ensures.value in
    let time = rw at_time at c.in_ok-time.ensures.told in
    let why = token_too_long c.args.now (parts_of c.args.parted.now) c.in_ok-time.time.now c.in_err-span.field-0.0 time c.in_err-span.ensures.refused in
    passed_up _ c.in_err-span.field-0.0 _ c.from_residual-in_err-span.ensures.1 why
