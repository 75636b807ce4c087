-- The name of a copy has the form of a name.
use Rattle.std.proofs.Common.{◌≡◌, ◌⊎◌, inl, inr, map, eqb-true, lit≤, ◌≢◌, ℕ, zero, suc, ◌+◌, ◌-◌, ◌≤◌, ◌<◌, ◌^◌, true, ◌&&◌, List, [], ◌∷◌, ◌++◌, length, take, drop, get_or, slice_index, codes, decimal, lit<, refl, sym, ap, subst, ◌∙◌, arith, length-append}
use Rattle.std.proofs.lemmas.List.{get_or-append-add, length-take-le, take-append-drop}
use Rattle.std.proofs.lemmas.Bool.{and_parts}
use Rattle.std.proofs.lemmas.List.Folds.{list_all-append}
use Rattle.std.proofs.lemmas.Str.{IsUtf8-append, IsUtf8-from_ascii, IsUtf8-take, IsUtf8-drop, chars-append, chars-IsAscii, IsCharBoundary-before_ascii, IsCharBoundary-end}
use Rattle.std.proofs.lemmas.Fmt.{IsAscii-decimal, decimal-digits_of}
use Rattle.std.proofs.lemmas.Int.Digits.{all_below_base_digits_of}
use Rattle.std.specs.Int.Digits.{digits_of}
use Rattle.std.specs.List.{list_all, AllByRecursion}
use Rattle.std.specs.Str.{IsUtf8, IsAscii, IsCharBoundary, chars}
use Rattle.wopi_text.specs.FileName.{name_limit, IsFileName, is_name_char}
use Rattle.put_relative.specs.CopyNames.{is_period}

all_chars : (xs ys : List ℕ) → IsUtf8 xs → list_all is_name_char (chars xs) ≡ true → list_all is_name_char (chars ys) ≡ true → list_all is_name_char (chars (xs ++ ys)) ≡ true
all_chars xs ys utf8 h k = rw (chars-append xs ys utf8, list_all-append is_name_char (chars xs) (chars ys), h, k) refl

ascii_chars : (xs : List ℕ) → IsAscii xs → list_all is_name_char xs ≡ true → list_all is_name_char (chars xs) ≡ true
ascii_chars xs ascii h = rw (chars-IsAscii xs ascii) h

opening_is_ascii : IsAscii (codes " (")
opening_is_ascii zero = lit< tt
opening_is_ascii (suc zero) = lit< tt
opening_is_ascii (suc (suc i)) = lit< tt

closing_is_ascii : IsAscii (codes ")")
closing_is_ascii zero = lit< tt
closing_is_ascii (suc i) = lit< tt

first_same : (s r e : List ℕ) → 0 < length s → slice_index (s ++ r) 0 ≡ slice_index (s ++ e) 0
first_same [] r e h = absurd (omega arith)
first_same (b ∷ s) r e h = refl

last_of_both : (xs ys : List ℕ) → 0 < length ys → slice_index (xs ++ ys) (length (xs ++ ys) - 1) ≡ slice_index ys (length ys - 1)
last_of_both xs ys h =
    let len = length-append xs ys in
    let place : length (xs ++ ys) - 1 ≡ length xs + (length ys - 1) = omega (arith, len) in
    ap (λ i. slice_index (xs ++ ys) i) place ∙ get_or-append-add xs ys (length ys - 1) 0

some_tail : (e : List ℕ) → 0 < length (codes ")" ++ e)
some_tail e = omega arith

longer : (xs ys : List ℕ) → 0 < length ys → 0 < length (xs ++ ys)
longer xs ys h = let len = length-append xs ys in omega (arith, len)

longer_left : (xs ys : List ℕ) → 0 < length xs → 0 < length (xs ++ ys)
longer_left xs ys h = let len = length-append xs ys in omega (arith, len)

of_tail : (s e : List ℕ) (P : ℕ → Type 0) → P 41 → (0 < length e → P (slice_index (s ++ e) (length (s ++ e) - 1))) → P (slice_index (codes ")" ++ e) (length (codes ")" ++ e) - 1))
of_tail s [] P paren other = paren
of_tail s (b ∷ e) P paren other =
    let some : 0 < length (b ∷ e) = omega arith in
    subst P (last_of_both s (b ∷ e) some ∙ sym (last_of_both (codes ")") (b ∷ e) some)) (other some)

-- the last byte of a copy's name is the `)`, or the last byte of the name
last_byte : (s d e : List ℕ) (P : ℕ → Type 0) → P 41 → (0 < length e → P (slice_index (s ++ e) (length (s ++ e) - 1))) → P (slice_index (s ++ (codes " (" ++ (d ++ (codes ")" ++ e)))) (length (s ++ (codes " (" ++ (d ++ (codes ")" ++ e)))) - 1))
last_byte s d e P paren other =
    let t = codes ")" ++ e in
    let some : 0 < length t = some_tail e in
    let one = last_of_both d t some in
    let two = last_of_both (codes " (") (d ++ t) (longer d t some) in
    let three = last_of_both s (codes " (" ++ (d ++ t)) (longer (codes " (") (d ++ t) (longer d t some)) in
    subst P (sym (three ∙ two ∙ one)) (of_tail s e P paren other)

pub copy_is_name : (name s e d : List ℕ) → IsFileName name → name ≡ s ++ e → 0 < length s → IsUtf8 s → IsUtf8 e → IsAscii d → list_all is_name_char d ≡ true → length (s ++ (codes " (" ++ (d ++ (codes ")" ++ e)))) ≤ name_limit
    → IsFileName (s ++ (codes " (" ++ (d ++ (codes ")" ++ e))))
copy_is_name name s e d form cut some su eu ascii digits short =
    let closed = codes ")" ++ e in
    let dotted : IsUtf8 closed = IsUtf8-append (codes ")") e (IsUtf8-from_ascii _ closing_is_ascii) eu in
    let numbered : IsUtf8 (d ++ closed) = IsUtf8-append d closed (IsUtf8-from_ascii d ascii) dotted in
    let opened : IsUtf8 (codes " (" ++ (d ++ closed)) = IsUtf8-append (codes " (") (d ++ closed) (IsUtf8-from_ascii _ opening_is_ascii) numbered in
    let both : (list_all is_name_char (chars s) && list_all is_name_char (chars e)) ≡ true = sym (ap (list_all is_name_char) (chars-append s e su) ∙ list_all-append is_name_char (chars s) (chars e)) ∙ subst (λ n. list_all is_name_char (chars n) ≡ true) cut form.allowed in
    let parts = and_parts _ _ both in
    let last = last_byte s d e in
    record {
      not_empty = longer_left s _ some;
      short = short;
      utf8 = IsUtf8-append s (codes " (" ++ (d ++ closed)) su opened;
      allowed = all_chars s _ su parts.0 (all_chars (codes " (") _ (IsUtf8-from_ascii _ opening_is_ascii) (ascii_chars _ opening_is_ascii refl) (all_chars d _ (IsUtf8-from_ascii d ascii) (ascii_chars d ascii digits) (all_chars (codes ")") e (IsUtf8-from_ascii _ closing_is_ascii) (ascii_chars _ closing_is_ascii refl) parts.1)));
      no_leading_period = subst (λ b. b ≢ 46) (ap (λ n. slice_index n 0) cut ∙ first_same s e _ some) form.no_leading_period;
      no_closing_period = last (λ b. b ≢ 46) (λ h. omega (arith, h)) (λ _. subst (λ n. slice_index n (length n - 1) ≢ 46) cut form.no_closing_period);
      no_closing_space = last (λ b. b ≢ 32) (λ h. omega (arith, h)) (λ _. subst (λ n. slice_index n (length n - 1) ≢ 32) cut form.no_closing_space);
    }

digit_name : (k : ℕ) → k < 10 → is_name_char (48 + k) ≡ true
digit_name zero h = refl
digit_name (suc zero) h = refl
digit_name (suc (suc zero)) h = refl
digit_name (suc (suc (suc zero))) h = refl
digit_name (suc (suc (suc (suc zero)))) h = refl
digit_name (suc (suc (suc (suc (suc zero))))) h = refl
digit_name (suc (suc (suc (suc (suc (suc zero)))))) h = refl
digit_name (suc (suc (suc (suc (suc (suc (suc zero))))))) h = refl
digit_name (suc (suc (suc (suc (suc (suc (suc (suc zero)))))))) h = refl
digit_name (suc (suc (suc (suc (suc (suc (suc (suc (suc zero))))))))) h = refl
digit_name (suc (suc (suc (suc (suc (suc (suc (suc (suc (suc k)))))))))) h = absurd (omega arith)

digits_name : (digits : List ℕ) → AllByRecursion (λ d. d < 10) digits → list_all is_name_char (map (λ d. 48 + d) digits) ≡ true
digits_name [] h = refl
digits_name (d ∷ digits) h = rw (digit_name d h.0, digits_name digits h.1) refl

decimal_name : (n : ℕ) → 0 < n → n < 2 ^ 64 → list_all is_name_char (decimal n) ≡ true
decimal_name n some small = rw (decimal-digits_of n some small) (digits_name (digits_of 10 n) (all_below_base_digits_of 10 n (lit≤ tt)))

low : (b : ℕ) → is_period b ≡ true → b < 128
low b h = let is = eqb-true b 46 h in omega (arith, is)

lt_or_eq : (m n : ℕ) → m ≤ n → (m < n) ⊎ (m ≡ n)
lt_or_eq m n h = grind arith

boundary : (name : List ℕ) (m : ℕ) → m ≤ length name → (m < length name → is_period (get_or name m 0) ≡ true) → IsCharBoundary name m
boundary name m inside period = elim (lt_or_eq m (length name) inside) [
  | inl below ↦ IsCharBoundary-before_ascii name m below (low (get_or name m 0) (period below))
  | inr same ↦ subst (λ k. IsCharBoundary name k) (sym same) (IsCharBoundary-end name)
]

positive : (name : List ℕ) (m : ℕ) → IsFileName name → (m < length name → is_period (get_or name m 0) ≡ true) → 0 < m
positive name zero form period = absurd (form.no_leading_period (eqb-true (get_or name 0 0) 46 (period form.not_empty)))
positive name (suc m) form period = omega arith

-- the name of a copy, at the place where the stem ends
pub copy_form : (name text : List ℕ) (m n : ℕ) → IsFileName name → m ≤ length name → (m < length name → is_period (get_or name m 0) ≡ true) → 0 < n → n < 2 ^ 64 → text ≡ take m name ++ (codes " (" ++ (decimal n ++ (codes ")" ++ drop m name))) → length text ≤ name_limit → IsFileName text
copy_form name text m n form inside period some small is short =
    let edge : IsCharBoundary name m = boundary name m inside period in
    let more : 0 < m = positive name m form period in
    let len : length (take m name) ≡ m = length-take-le m name inside in
    let whole : name ≡ take m name ++ drop m name = sym (take-append-drop m name) in
    let fits = subst (λ t. length t ≤ name_limit) is short in
    let made = copy_is_name name (take m name) (drop m name) (decimal n) form whole (omega (arith, len, more)) (IsUtf8-take name m form.utf8 edge) (IsUtf8-drop name m form.utf8 edge) (IsAscii-decimal n small) (decimal_name n some small) fits in
    subst IsFileName (sym is) made
