-- Which piece begins the bytes, by what the code has tested.
use Rattle.std.proofs.Common.{◌≡◌, ◌≢◌, ℕ, suc, ◌+◌, ◌<◌, ◌≤◌, true, false, true≢false, List, [], ◌∷◌, ◌++◌, Option, Some, None, is_some, length, get_or, take, drop, take_while, slice_get, sym, ap, ◌∙◌, subst, arith, inl, inr, drop-cons, drop_of_length-le, take-append-drop}
use Rattle.std.proofs.lemmas.Bool.{cases_lt}
use Rattle.std.proofs.lemmas.List.Folds.{length-prefix_len}
use Rattle.std.proofs.lemmas.List.Sums.{prefix_len_stops, prefix_len-le-length}
use Rattle.std.specs.List.{prefix_len}
use Rattle.utf7_text.specs.Pieces.{AreUnits, EndsShift, Piece, Direct, Plus, Shift, base64_of, is_base64, is_direct}
use Rattle.utf7_text.specs.Readings.{Begins, BeginsNoPiece, IsShifted, TakesPiece}
use Rattle.utf7_text.proofs.Digits.{digits_pass, digits_stop}
use Rattle.utf7_text.proofs.Cutting.{dash, plus_not_direct, shift_bytes, shift_stops}

-- a number, if there is one
abbrev pub value : Option ℕ → ℕ
value (Some x) = x
value None = 0

pub begins_with : (bytes : List ℕ) (x : ℕ) → slice_get bytes 0 ≡ Some x → bytes ≡ x ∷ drop 1 bytes
begins_with [] x first = absurd (true≢false (sym (ap is_some first)))
begins_with (b ∷ bytes) x first = ap (λ y. y ∷ bytes) (ap value first)

pub direct_begins : (bytes : List ℕ) (x : ℕ) → 0 < length bytes → get_or bytes 0 0 ≡ x → is_direct x ≡ true → Begins bytes (Direct x) (drop 1 bytes)
direct_begins [] x some first direct = absurd (omega (arith, some))
direct_begins (b ∷ bytes) x some first direct = (ap (λ y. y ∷ bytes) first, direct)

closed_begins : (bs units : List ℕ) (len : ℕ) → AreUnits units → take len bs ≡ base64_of units → len < length bs → get_or bs len 0 ≡ 45 → Begins (43 ∷ bs) (Shift units true) (drop (len + 2) (43 ∷ bs))
closed_begins bs units len are digits below last =
    let place : len + 2 ≡ suc (suc len) = omega arith in
    let tail : drop len bs ≡ 45 ∷ drop (suc len) bs = drop-cons bs len 0 below ∙ ap (λ b. b ∷ drop (suc len) bs) last in
    let whole : bs ≡ base64_of units ++ (45 ∷ drop (suc len) bs) = sym (take-append-drop len bs) ∙ ap (λ t. take len bs ++ t) tail ∙ ap (λ t. t ++ (45 ∷ drop (suc len) bs)) digits in
    subst (Begins (43 ∷ bs) (Shift units true)) (ap (λ n. drop n (43 ∷ bs)) (sym place))
    (ap (λ t. 43 ∷ t) whole ∙ sym (shift_bytes units (drop (suc len) bs) true), (are, λ h. absurd (true≢false h)))

open_begins : (bs units : List ℕ) (len : ℕ) → AreUnits units → take len bs ≡ base64_of units → EndsShift (drop len bs) → Begins (43 ∷ bs) (Shift units false) (drop (len + 1) (43 ∷ bs))
open_begins bs units len are digits ends =
    let place : len + 1 ≡ suc len = omega arith in
    let whole : bs ≡ base64_of units ++ drop len bs = sym (take-append-drop len bs) ∙ ap (λ t. t ++ drop len bs) digits in
    subst (Begins (43 ∷ bs) (Shift units false)) (ap (λ n. drop n (43 ∷ bs)) (sym place))
    (ap (λ t. 43 ∷ t) whole ∙ sym (shift_bytes units (drop len bs) false), (are, λ _. ends))

pub digits_end : (bs : List ℕ) (len : ℕ) → len ≡ length (take_while is_base64 bs) → (len < length bs → get_or bs len 0 ≢ 45) → EndsShift (drop len bs)
digits_end bs len is other = elim (cases_lt len (length bs)) [
  | inl below ↦
      let count : len ≡ prefix_len is_base64 bs = is ∙ length-prefix_len is_base64 bs in
      let stops : is_base64 (get_or bs len 0) ≡ false = subst (λ n. n < length bs → is_base64 (get_or bs n 0) ≡ false) (sym count) (prefix_len_stops is_base64 bs 0) below in
      subst EndsShift (sym (drop-cons bs len 0 below)) (stops, other below)
  | inr past ↦ subst EndsShift (sym (drop_of_length-le bs past)) tt
]

digits_inside : (bs : List ℕ) (len : ℕ) → len ≡ length (take_while is_base64 bs) → len ≤ length bs
digits_inside bs len is = let count = length-prefix_len is_base64 bs in let inside = prefix_len-le-length is_base64 bs in omega (arith, is, count, inside)

-- no shift has the digits after a `+`
no_piece : (bs : List ℕ) (p : Piece) (after : List ℕ) → slice_get (43 ∷ bs) 1 ≢ Some 45 → ((units : List ℕ) → AreUnits units → take_while is_base64 bs ≢ base64_of units) → Begins (43 ∷ bs) p after → ⊥
no_piece bs (Direct x) after second none begins = plus_not_direct x (sym (ap (λ xs. get_or xs 0 0) begins.0)) begins.1
no_piece bs Plus after second none begins = second (ap (λ xs. slice_get xs 1) begins.0)
no_piece bs (Shift units closed) after second none begins =
    let inner : bs ≡ base64_of units ++ (dash closed ++ after) = ap (drop 1) (begins.0 ∙ shift_bytes units after closed) in
    none units begins.1.0 (ap (take_while is_base64) inner ∙ digits_stop (base64_of units) (dash closed ++ after) (digits_pass units) (shift_stops closed after begins.1.1))

-- The bytes begin with `+` and no `-` after it; rest is what stands after the `+`, and as many digits as it has.
module _ (bytes rest : List ℕ) (len : ℕ) (plus : slice_get bytes 0 ≡ Some 43) (after : rest ≡ drop 1 bytes) (count : len ≡ length (take_while is_base64 rest)) where
  whole : bytes ≡ 43 ∷ rest
  whole = begins_with bytes 43 plus ∙ ap (λ xs. 43 ∷ xs) (sym after)

  digits : take len rest ≡ take_while is_base64 rest
  digits = ap (λ n. take n rest) (count ∙ length-prefix_len is_base64 rest)

  pub no_shift_begins : slice_get bytes 1 ≢ Some 45 → ((units : List ℕ) → AreUnits units → take len rest ≢ base64_of units) → BeginsNoPiece bytes
  no_shift_begins second none piece more begins =
      no_piece rest piece more (subst (λ xs. slice_get xs 1 ≢ Some 45) whole second) (λ units are same. none units are (digits ∙ same)) (subst (λ xs. Begins xs piece more) whole begins)

  pub closed_shift : (old new text : List ℕ) → IsShifted (take len rest) text → len < length rest → get_or rest len 0 ≡ 45 → new ≡ old ++ text → TakesPiece bytes old new (Some (len + 2))
  closed_shift old new text shifted below last made =
      subst (λ xs. TakesPiece xs old new (Some (len + 2))) (sym whole)
      (Shift shifted.0 true, closed_begins rest shifted.0 len shifted.1 shifted.2 below last, made ∙ ap (λ t. old ++ t) shifted.3, omega arith, omega (arith, below))

  pub open_shift : (old new text : List ℕ) → IsShifted (take len rest) text → (len < length rest → get_or rest len 0 ≢ 45) → new ≡ old ++ text → TakesPiece bytes old new (Some (len + 1))
  open_shift old new text shifted other made =
      subst (λ xs. TakesPiece xs old new (Some (len + 1))) (sym whole)
      (Shift shifted.0 false, open_begins rest shifted.0 len shifted.1 shifted.2 (digits_end rest len count other), made ∙ ap (λ t. old ++ t) shifted.3, omega arith, let inside = digits_inside rest len count in omega (arith, inside))
