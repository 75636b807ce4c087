-- The UTF-16 units of characters stand for those characters.
use Rattle.std.proofs.Common.{◌≡◌, ℕ, ◌+◌, ◌-◌, ◌/◌, ◌%◌, ◌<◌, ◌≤◌, true, false, not, List, [], ◌∷◌, ◌++◌, Some, is_some, map, length, flat_map, refl, sym, ap, ◌∙◌, subst, arith, inl, inr, ◌⊎◌}
use Rattle.std.proofs.Math.Utf8.{scalar, scalar_cases}
use Rattle.std.proofs.lemmas.Bool.{and_parts, cases_lt}
use Rattle.std.proofs.lemmas.Str.{utf16_chars-nil, utf16_chars_lone, utf16_chars_pair}
use Rattle.std.proofs.str.Utf16.{lone_unit_char_low, lone_unit_char_high, one_unit, two_units}
use Rattle.std.specs.Char.Escape.{encode_utf16}
use Rattle.std.specs.Char.Utf16.{surrogate_pair_char, utf16_chars, utf16_lossy_chars}
use Rattle.std.specs.List.{list_any}
use Rattle.std.specs.Option.{unwrap_or}
use Rattle.std.specs.Str.{all_scalars}
use Rattle.utf7_text.specs.Pieces.{AreUnits}
use Rattle.utf7_text.proofs.Digits.{AreSmall}

-- what is shown of one unit and of two holds of the units of a character
by_units : (P : List ℕ → Type 0) (c : ℕ) → scalar c ≡ true
    → (c < 0x1_0000 → (c < 0xD800) ⊎ (0xE000 ≤ c) → P (c ∷ []))
    → (0x1_0000 ≤ c → c < 0x11_0000 → P ((0xD800 + (c - 0x1_0000) / 0x400) ∷ (0xDC00 + (c - 0x1_0000) % 0x400) ∷ [])) → P (encode_utf16 c)
by_units P c s one two = elim (cases_lt c 0x1_0000) [
  | inl low ↦
      subst P (sym (one_unit c low)) (one low (elim (scalar_cases c s) [ inl below ↦ inl below | inr above ↦ inr above.0 ]))
  | inr high ↦
      subst P (sym (two_units c high)) (two high (elim (scalar_cases c s) [ inl below ↦ omega arith | inr above ↦ above.1 ]))
]

lone : (c : ℕ) (us : List ℕ) → (c < 0xD800) ⊎ (0xE000 ≤ c) → utf16_chars (c ∷ us) ≡ Some c ∷ utf16_chars us
lone c us (inl below) = utf16_chars_lone c us (λ p. omega (arith, below, p.0)) ∙ ap (λ o. o ∷ utf16_chars us) (lone_unit_char_low c below)
lone c us (inr above) = utf16_chars_lone c us (λ p. omega (arith, above, p.1)) ∙ ap (λ o. o ∷ utf16_chars us) (lone_unit_char_high c above)

pair_value : (c : ℕ) → 0x1_0000 ≤ c → surrogate_pair_char (0xD800 + (c - 0x1_0000) / 0x400) (0xDC00 + (c - 0x1_0000) % 0x400) ≡ c
pair_value c high = omega arith

pair : (c : ℕ) (us : List ℕ) → 0x1_0000 ≤ c → c < 0x11_0000 → utf16_chars ((0xD800 + (c - 0x1_0000) / 0x400) ∷ (0xDC00 + (c - 0x1_0000) % 0x400) ∷ us) ≡ Some c ∷ utf16_chars us
pair c us high top =
    utf16_chars_pair (0xD800 + (c - 0x1_0000) / 0x400) (0xDC00 + (c - 0x1_0000) % 0x400) us (omega arith, omega arith, omega arith, omega arith)
    ∙ ap (λ x. Some x ∷ utf16_chars us) (pair_value c high)

first_char : (c : ℕ) (us : List ℕ) → scalar c ≡ true → utf16_chars (encode_utf16 c ++ us) ≡ Some c ∷ utf16_chars us
first_char c us s = by_units (λ xs. utf16_chars (xs ++ us) ≡ Some c ∷ utf16_chars us) c s (λ _ apart. lone c us apart) (λ high top. pair c us high top)

abbrev pub units_of : List ℕ → List ℕ
units_of cs = flat_map encode_utf16 cs

chars_units : (cs : List ℕ) → all_scalars cs ≡ true → utf16_chars (units_of cs) ≡ map Some cs
chars_units [] s = utf16_chars-nil
chars_units (c ∷ cs) s =
    let parts = and_parts _ _ s in
    first_char c (units_of cs) parts.0 ∙ ap (λ os. Some c ∷ os) (chars_units cs parts.1)

all_some : (cs : List ℕ) → list_any (λ o. not (is_some o)) (map Some cs) ≡ false
all_some [] = refl
all_some (c ∷ cs) = all_some cs

all_values : (cs : List ℕ) → map (λ o. unwrap_or o 0xFFFD) (map Some cs) ≡ cs
all_values [] = refl
all_values (c ∷ cs) = ap (λ xs. c ∷ xs) (all_values cs)

-- the units of characters stand for them
pub lossy_units : (cs : List ℕ) → all_scalars cs ≡ true → utf16_lossy_chars (units_of cs) ≡ cs
lossy_units cs s = ap (λ os. map (λ o. unwrap_or o 0xFFFD) os) (chars_units cs s) ∙ all_values cs

small_append : (us vs : List ℕ) → AreSmall us → AreSmall vs → AreSmall (us ++ vs)
small_append [] vs small other = other
small_append (u ∷ us) vs small other = (small.0, small_append us vs small.1 other)

small_units : (cs : List ℕ) → all_scalars cs ≡ true → AreSmall (units_of cs)
small_units [] s = tt
small_units (c ∷ cs) s =
    let parts = and_parts _ _ s in
    small_append (encode_utf16 c) (units_of cs) (by_units AreSmall c parts.0 (λ low _. (low, tt)) (λ high top. (omega arith, (omega arith, tt)))) (small_units cs parts.1)

-- the units of a character are one or two
pub some_unit : (c : ℕ) → scalar c ≡ true → 0 < length (encode_utf16 c)
some_unit c s = by_units (λ us. 0 < length us) c s (λ _ _. omega arith) (λ _ _. omega arith)

-- the units of characters can be those of a shift
pub are_units : (cs : List ℕ) → all_scalars cs ≡ true → 0 < length (units_of cs) → AreUnits (units_of cs)
are_units cs s some =
    record {
      some = some;
      small = small_units cs s;
      paired = ap (list_any (λ o. not (is_some o))) (chars_units cs s) ∙ all_some cs;
    }
