use Rattle.std.proofs.Common.{◌≡◌, IfSome, length, is_err, vec_len, eqb-true, sym, ap, ◌∙◌, subst, arith, true≢false}
use Rattle.std.specs.Char.Utf16.{has_unpaired_surrogate}
use Rattle.utf7_text.specs.Pieces.{base64_of}
use Rattle.utf7_text.proofs.Digits.{AreSmall, digits_same}
use Rattle.utf7_text.proofs.shift.shift_text.Goals as goal

pub returns-then-is_empty-clause-none : goal.returns-then-is_empty-clause-none
returns-then-is_empty-clause-none c units are same =
    let found = subst (λ o. IfSome o (λ us. (c.args.digits.now ≡ base64_of us.items) × AreSmall us.items)) c.in-Some.is c.in_ok-units.ensures.some in
    let us = digits_same c.in-Some.units.items units found.1 are.small (sym found.0 ∙ same) in
    let len = ap length us in
    let some = are.some in
    let none = eqb-true (vec_len c.in-Some.units) 0 (sym c.if-is_empty.ensures) in
    let held = c.in-Some.units.ok.0 in
    omega (arith, len, some, none, held)

pub returns-clause-none : goal.returns-clause-none
returns-clause-none c units are same =
    let found = subst (λ o. IfSome o (λ us. (c.args.digits.now ≡ base64_of us.items) × AreSmall us.items)) c.in-Some.is c.in_ok-units.ensures.some in
    let us = digits_same c.in-Some.units.items units found.1 are.small (sym found.0 ∙ same) in
    true≢false (sym (ap is_err c.in-Err.is) ∙ c.in_ok-text.ensures.unpaired ∙ ap has_unpaired_surrogate (c.deref.ensures.value ∙ us) ∙ are.paired)
