use Rattle.std.proofs.Common.{◌∙◌, ◌-◌, ap, drop, length, arith, length-drop}
use Rattle.std.proofs.lemmas.List.{take_all}
use Rattle.wopi_headers.proofs.Places.{from_first}
use Rattle.wopi_headers.proofs.target.from_slash.Goals as goal

pub returns : goal.returns
returns c =
    let bytes = c.args.bytes.now in
    let place = c.first_place-place.result in
    let is = c.first_place-place.ensures.value in
    take_all (length bytes - place) (drop place bytes) (omega (arith, length-drop place bytes))
    ∙ ap (λ k. drop k bytes) is ∙ from_first 47 bytes (omega (arith, is, c.if-place-bytes.false, c.first_place-place.ensures.inside))
