use Rattle.std.proofs.Common.{◌≡◌}
use Rattle.hex.specs.Hex.{encode_lower}
use Rattle.command_words.specs.Parts.{parts_of}
use Rattle.command_words.proofs.RefusalLemmas.{edit_no_places, passed_up}
use Rattle.command_words.proofs.meaning.edit_meant.Goals as goal

pub returns-in_err-places-clause-refused : goal.returns-in_err-places-clause-refused
returns-in_err-places-clause-refused c =
    let own : c.as_str.result.now ≡ encode_lower c.args.chance.now.random = cc (c.as_str.ensures.value, c.in-Ok.ensures, c.as_slice.ensures) in
    let places = rw own at c.in_err-places.ensures.refused in
    let why = edit_no_places (encode_lower c.args.chance.now.random) (parts_of c.args.parted.now) c.in_err-places.field-0.0 places in
    passed_up _ c.in_err-places.field-0.0 _ c.from_residual-in_err-places.ensures.1 why
