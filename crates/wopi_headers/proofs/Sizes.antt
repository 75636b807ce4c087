-- 19 digits are below the greatest u64.
use Rattle.std.proofs.Common.{◌≡◌, ℕ, ◌≤◌, ◌<◌, ◌^◌, ◌&&◌, Bool, true, false, cond, List, length, Some, None, nat_lt, refl, arith, rules}
use Rattle.std.specs.Prelude.{MatchOption}
use Rattle.std.specs.List.{list_all}
use Rattle.std.specs.Char.{is_ascii_digit}
use Rattle.std.specs.Cmp.Derive.{both_true}
use Rattle.std.specs.Str.Parse.{digits_value}
use Rattle.std.proofs.lemmas.Bool.{lt-ltb, ltb-true, and_parts}
use Rattle.std.proofs.lemmas.Str.Parse.{numerals_by_value, digits_value_short, IsNumeralModel}
use Rattle.wopi_text.specs.Decimals.{are_digits, digits_of}
use Rattle.wopi_headers.specs.Readings.{IsSize}

own : IsNumeralModel (λ ds. list_all is_ascii_digit ds ≡ true) (digits_value 10)
own = numerals_by_value _ (search rules)

chosen : (b : Bool) (v : ℕ) (N : Type 0) (S : ℕ → Type 0) → (b ≡ false → N) → (b ≡ true → S v) → MatchOption (cond b (Some v) None) N S
chosen true v N S none some = some refl
chosen false v N S none some = none refl

pub size_is : (digits : List ℕ) → length digits ≤ 19 → MatchOption (digits_of digits) ((n : ℕ) → ¬ (IsSize digits n)) (IsSize digits)
size_is digits few =
    let v = digits_value 10 digits in
    chosen (are_digits digits && nat_lt v (2 ^ 64)) v _ _
    (λ e n size.
    let small : v < 10 ^ 19 = digits_value_short own digits 19 size.digits_are few in
    let fits : nat_lt v (2 ^ 64) ≡ true = lt-ltb v (2 ^ 64) (omega (arith, small)) in
    let all : (are_digits digits && nat_lt v (2 ^ 64)) ≡ true = both_true (both_true (lt-ltb 0 (length digits) size.some) size.digits_are) fits in
    absurd (cc))
    (λ e. let parts = and_parts _ _ (and_parts _ _ e).0 in
    record { some = ltb-true 0 (length digits) parts.0; few = few; digits_are = parts.1; value_is = refl })
