use Rattle.std.proofs.Common.{length, refl, sym, ap, ◌∙◌, subst, arith}
use Rattle.base64.specs.Engines.{standard_no_pad}
use Rattle.base64.specs.GeneralPurpose.{IsDecodeFailure, encode_of}
use Rattle.utf7_text.specs.Pieces.{base64_of}
use Rattle.utf7_text.proofs.Digits.{decoded, even_bytes, not_refused}
use Rattle.utf7_text.proofs.shift.units_of.Goals as goal

pub returns-in-Err-DecodeError-clause-none : goal.returns-in-Err-DecodeError-clause-none
returns-in-Err-DecodeError-clause-none c units small same =
    not_refused c.args.digits.now units c.in-Err-DecodeError.field-0-0 same (subst (IsDecodeFailure standard_no_pad c.args.digits.now) c.in-Err-DecodeError.field-0-is c.in-Err-DecodeError.ensures.err)

pub returns-then-len-ne0-clause-none : goal.returns-then-len-ne0-clause-none
returns-then-len-ne0-clause-none c units small same =
    let bytes = ap length (decoded c.args.digits.now units c.in-Ok.bytes.items same c.in-Ok.ensures.ok) in
    let even = even_bytes units in
    omega (arith, bytes, even)

pub returns-clause-some : goal.returns-clause-some
unfolding base64_of
returns-clause-some c =
    (c.in-Ok.ensures.exact (refl, refl) ∙ ap (encode_of standard_no_pad) (sym c.deref.ensures.value ∙ c.in_ok-units_of_bytes.ensures.bytes), c.in_ok-units_of_bytes.ensures.small)
