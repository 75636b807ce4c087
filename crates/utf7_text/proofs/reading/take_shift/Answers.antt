use Rattle.std.proofs.Common.{◌≢◌, ◌-◌, ◌++◌, ◌∙◌, ap, List, ℕ, IfSome, IfNone, arith, drop, length, string_bytes, subst, take}
use Rattle.utf7_text.proofs.Cutting.{whole_rest}
use Rattle.utf7_text.proofs.Pushing.{closed_shift, no_shift_begins, open_shift}
use Rattle.utf7_text.proofs.reading.take_shift.Goals as goal
use Rattle.utf7_text.proofs.reading.take_shift.Goals.{else-len-rest-via-then-len-rest+else-rest-len-eq45, else-len-rest-via-else-len-rest}
use Rattle.utf7_text.specs.Pieces.{AreUnits, base64_of}
use Rattle.utf7_text.specs.Readings.{IsShifted}

-- what stands after the `+`
abbrev after_plus : List ℕ → List ℕ
after_plus bytes = take (length bytes - 1) (drop 1 bytes)

pub returns-in_default : goal.returns-in_default
returns-in_default c =
    let bytes = c.args.bytes.now in
    let rest = after_plus bytes in
    let len = c.digits_len-len.result in
    let none = subst (λ o. IfNone o ((units : List ℕ) → AreUnits units → take len rest ≢ base64_of units)) c.in_default.is c.in_ok-shifted.ensures.none in
    no_shift_begins bytes rest len c.requires.plus (whole_rest bytes 1) c.digits_len-len.ensures c.requires.no_dash none

pub returns-then-rest-len-eq45 : goal.returns-then-rest-len-eq45
returns-then-rest-len-eq45 c =
    let bytes = c.args.bytes.now in
    let rest = after_plus bytes in
    let len = c.digits_len-len.result in
    let shifted = subst (λ o. IfSome o (λ text. IsShifted (take len rest) (string_bytes text))) c.in-Some.is c.in_ok-shifted.ensures.some in
    closed_shift bytes rest len c.requires.plus (whole_rest bytes 1) c.digits_len-len.ensures (string_bytes c.args.text.now) (string_bytes c.push_str.new.self) (string_bytes c.in-Some.shifted) shifted c.if-len-rest.true c.if-rest-len-eq45.true (c.in_ok-push_str.ensures.bytes ∙ ap (λ t. string_bytes c.args.text.now ++ t) c.deref.ensures)

pub returns : goal.returns
returns c =
    let bytes = c.args.bytes.now in
    let rest = after_plus bytes in
    let len = c.digits_len-len.result in
    let shifted = subst (λ o. IfSome o (λ text. IsShifted (take len rest) (string_bytes text))) c.in-Some.is c.in_ok-shifted.ensures.some in
    let made = c.in_ok-push_str.ensures.bytes ∙ ap (λ t. string_bytes c.args.text.now ++ t) c.deref.ensures in
    let stays = open_shift bytes rest len c.requires.plus (whole_rest bytes 1) c.digits_len-len.ensures (string_bytes c.args.text.now) (string_bytes c.push_str.new.self) (string_bytes c.in-Some.shifted) shifted in
    elim c.else-len-rest.branch [
      | else-len-rest-via-then-len-rest+else-rest-len-eq45 w ↦ stays (λ _. w.if-rest-len-eq45.false) made
      | else-len-rest-via-else-len-rest w ↦ stays (λ below. let past = w.if-len-rest.false in omega (arith, below, past)) made
    ]
