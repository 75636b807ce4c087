use Rattle.std.proofs.Common.{◌-◌, IsUtf8, drop, length, string_bytes, subst, sym, ap, ◌∙◌, take}
use Rattle.std.proofs.lemmas.Str.{IsUtf8-string_bytes}
use Rattle.utf7_text.proofs.Cutting.{bad_at, no_reading, read_on}
use Rattle.utf7_text.specs.Readings.{TakesPiece}
use Rattle.utf7_text.proofs.reading.utf7_read.Goals as goal

pub returns-in_default-clause-no_reading : goal.returns-in_default-clause-no_reading
returns-in_default-clause-no_reading c other text reading =
    let bytes = c.args.bytes.now in
    let at = c.pieces.at in
    let stuck = subst (TakesPiece (take (length bytes - at) (drop at bytes)) (string_bytes c.pieces.text) (string_bytes c.take_piece.new.text)) c.in_default.is c.in_ok-len.ensures in
    no_reading bytes text at reading (bad_at bytes (string_bytes c.pieces.text) (string_bytes c.take_piece.new.text) at c.pieces-test.true c.pieces.invariant.read stuck)

pub pieces-preserved : goal.pieces-preserved
pieces-preserved c =
    let bytes = c.args.bytes.now in
    let at = c.pieces.at in
    let taken = subst (TakesPiece (take (length bytes - at) (drop at bytes)) (string_bytes c.pieces.text) (string_bytes c.take_piece.new.text)) c.in-Some.is c.in_ok-len.ensures in
    let on = read_on bytes (string_bytes c.pieces.text) (string_bytes c.take_piece.new.text) at c.in-Some.len c.pieces.invariant.inside c.pieces.invariant.read taken in
    record { inside = on.0; read = on.1 }

pub returns-clause-utf8 : goal.returns-clause-utf8
returns-clause-utf8 c =
    subst IsUtf8 (sym (c.from_vec.ensures ∙ ap (λ v. v.items) c.into_bytes.ensures.value)) (IsUtf8-string_bytes c.pieces.text)
