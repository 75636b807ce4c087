-- The lock ids of a session have the form of lock ids.
use Rattle.std.proofs.Common.{◌≡◌, ℕ, ◌+◌, ◌-◌, ◌/◌, ◌%◌, ◌^◌, ◌<◌, ◌≤◌, true, List, [], ◌∷◌, ◌++◌, map, length, refl, ap, ◌∙◌, arith}
use Rattle.std.proofs.lemmas.Bool.{and_parts}
use Rattle.std.proofs.lemmas.List.{length-append, map-append, append_assoc}
use Rattle.std.proofs.lemmas.List.Elements.{All-from_recursion}
use Rattle.std.specs.List.{All, AllByRecursion, list_all}
use Rattle.std.specs.Char.{is_ascii_alphanumeric}
use Rattle.std.specs.Int.Digits.{digits_of}
use Rattle.std.proofs.lemmas.Int.Digits.{digits_of_step, length-digits_of-le, all_below_base_digits_of}
use Rattle.wopi_text.specs.LockId.{IsLockId}
use Rattle.save_session.specs.LockIds.{decimal, lock_id}
use Rattle.save_session.specs.Nonce.{IsNonce}

pub decimal_step : (n : ℕ) → 0 < n → decimal n ≡ decimal (n / 10) ++ (48 + n % 10) ∷ []
decimal_step n some =
    ap (map (λ digit. 48 + digit)) (digits_of_step 10 n (omega arith) some) ∙ map-append (λ digit. 48 + digit) (digits_of 10 (n / 10)) (n % 10 ∷ [])

pub decimal_length : (n : ℕ) → 0 < n → length (decimal n) ≡ length (decimal (n / 10)) + 1
decimal_length n some = ap length (decimal_step n some) ∙ length-append (decimal (n / 10)) ((48 + n % 10) ∷ [])

length_of_map : (xs : List ℕ) → length (map (λ digit. 48 + digit) xs) ≡ length xs
length_of_map [] = refl
length_of_map (x ∷ xs) = let rest = length_of_map xs in omega (arith, rest)

pub decimal_short : (n : ℕ) → n < 2 ^ 128 → length (decimal n) ≤ 39
decimal_short n small =
    let same : length (decimal n) ≡ length (digits_of 10 n) = length_of_map (digits_of 10 n) in
    let short : length (digits_of 10 n) ≤ 39 = length-digits_of-le 10 39 n (omega arith) (omega (arith, small)) in
    omega (arith, same, short)

-- printable and no space
abbrev IsVisible : ℕ → Type 0
IsVisible byte = (33 ≤ byte) × (byte ≤ 126)

visible_letter : (byte : ℕ) → is_ascii_alphanumeric byte ≡ true → IsVisible byte
visible_letter byte h = grind arith

visible_letters : (bytes : List ℕ) → list_all is_ascii_alphanumeric bytes ≡ true → AllByRecursion (λ byte. (33 ≤ byte) × (byte ≤ 126)) bytes
visible_letters [] h = tt
visible_letters (byte ∷ bytes) h =
    let parts = and_parts (is_ascii_alphanumeric byte) (list_all is_ascii_alphanumeric bytes) h in
    (visible_letter byte parts.0, visible_letters bytes parts.1)

visible_digits : (digits : List ℕ) → AllByRecursion (λ d. d < 10) digits → AllByRecursion (λ byte. (33 ≤ byte) × (byte ≤ 126)) (map (λ digit. 48 + digit) digits)
visible_digits [] h = tt
visible_digits (digit ∷ digits) h = let low = h.0 in ((omega arith, omega (arith, low)), visible_digits digits h.1)

both_visible : (xs ys : List ℕ) → AllByRecursion (λ byte. (33 ≤ byte) × (byte ≤ 126)) xs → AllByRecursion (λ byte. (33 ≤ byte) × (byte ≤ 126)) ys →
    AllByRecursion (λ byte. (33 ≤ byte) × (byte ≤ 126)) (xs ++ ys)
both_visible [] ys a b = b
both_visible (x ∷ xs) ys a b = (a.0, both_visible xs ys a.1 b)

pub id_length : (nonce : List ℕ) (n : ℕ) → length (lock_id nonce n) ≡ length nonce + length (45 ∷ decimal n)
unfolding lock_id
id_length nonce n = length-append nonce (45 ∷ decimal n)

visible : (nonce : List ℕ) (n : ℕ) → IsNonce nonce → All (λ byte. (33 ≤ byte) × (byte ≤ 126)) (lock_id nonce n)
unfolding lock_id
visible nonce n form =
    All-from_recursion (λ byte. (33 ≤ byte) × (byte ≤ 126)) (nonce ++ 45 ∷ decimal n)
    (both_visible nonce (45 ∷ decimal n) (visible_letters nonce form.letters)
    ((omega arith, omega arith), visible_digits (digits_of 10 n) (all_below_base_digits_of 10 n (omega arith))))

pub is_lock_id : (nonce : List ℕ) (n : ℕ) → IsNonce nonce → n < 2 ^ 128 → IsLockId (lock_id nonce n)
is_lock_id nonce n form small =
    let head : length (45 ∷ decimal n) ≡ length (decimal n) + 1 = omega arith in
    let sum = id_length nonce n in
    let whole : length (lock_id nonce n) ≡ length nonce + (length (decimal n) + 1) = omega (arith, head, sum) in
    let digits = decimal_short n small in
    let most = form.short in
    let all = visible nonce n form in
    let some : 0 < length (lock_id nonce n) = omega (arith, whole) in
    let last : length (lock_id nonce n) - 1 < length (lock_id nonce n) = omega (arith, some) in
    let at_first = all 0 0 some in
    let at_last = all (length (lock_id nonce n) - 1) 0 last in
    record {
      not_empty = some;
      short = omega (arith, whole, digits, most);
      printable = λ k d within. let at = all k d within in let low = at.0 in (omega (arith, low), at.1);
      first = λ e. let low = at_first.0 in absurd (omega (arith, e, low));
      last = λ e. let low = at_last.0 in absurd (omega (arith, e, low));
    }

-- the pieces in which an id is written
pub id_is : (nonce : List ℕ) (n : ℕ) → (nonce ++ 45 ∷ []) ++ decimal n ≡ lock_id nonce n
unfolding lock_id
id_is nonce n = append_assoc nonce (45 ∷ []) (decimal n)
