use Rattle.std.proofs.Common.{◌≡◌}
use Rattle.command_words.specs.Parts.{parts_of}
use Rattle.command_words.proofs.RefusalLemmas.{passed_up, serve_no_around}
use Rattle.command_words.proofs.meaning.serve_meant.Goals as goal

pub returns-in_err-around-clause-refused : goal.returns-in_err-around-clause-refused
returns-in_err-around-clause-refused c =
    let at_options : c.deref.result.now ≡ c.args.parted.now.options.items = c.deref.ensures.value in
    let at_flags : c.deref-2.result.now ≡ c.args.parted.now.flags.items = c.deref-2.ensures.value in
    let verbose = rw at_flags at c.has.ensures in
    let around = rw at_options at c.in_err-around.ensures.refused in
    let why = serve_no_around (parts_of c.args.parted.now) c.has.result c.in_err-around.field-0.0 verbose around in
    passed_up _ c.in_err-around.field-0.0 _ c.from_residual.ensures.1 why
