-- The digits of a shift's units.
use Rattle.std.proofs.Common.{◌≡◌, ℕ, zero, suc, ◌+◌, ◌*◌, ◌/◌, ◌%◌, ◌<◌, ◌^◌, true, false, true≢false, cond, List, [], ◌∷◌, ◌++◌, length, get_or, take, drop, take_while, flat_map, Result, Ok, Err, is_ok, refl, sym, ap, ap₂, ◌∙◌, subst, arith, lit<, append-nil, append_assoc, inl, inr}
use Rattle.std.proofs.lemmas.Bool.{and_parts, cases_Bool}
use Rattle.std.proofs.lemmas.List.{append_cancel_left}
use Rattle.std.proofs.lemmas.List.Folds.{list_all_at}
use Rattle.std.proofs.lemmas.List.Sums.{take_while-cons}
use Rattle.std.proofs.lemmas.Nat.{from_be_bytes-to_be_bytes_2}
use Rattle.std.specs.Bool.{⊤}
use Rattle.std.specs.Cmp.Derive.{both_true}
use Rattle.std.specs.Int.{w16, to_be_bytes, from_be_bytes}
use Rattle.std.specs.List.{AllByRecursion, list_all}
use Rattle.base64.proofs.EngineFacts.{decode_of-encode_of}
use Rattle.base64.specs.Engines.{standard_no_pad}
use Rattle.base64.specs.GeneralPurpose.{IsBytes, decode_of, engine_symbols}
use Rattle.base64.specs.Rfc4648.{encode_symbols}
use Rattle.base64.specs.declared.decode.DecodeError.{DecodeError}
use Rattle.utf7_text.specs.Pieces.{base64_of, is_base64}

abbrev pub unit_bytes : List ℕ → List ℕ
unit_bytes units = flat_map (to_be_bytes w16) units

abbrev pub AreSmall : List ℕ → Type 0
AreSmall units = AllByRecursion (λ unit. unit < 2 ^ 16) units

-- two bytes of each unit are bytes
pub are_bytes : (units : List ℕ) → IsBytes (unit_bytes units)
are_bytes [] i = omega arith
are_bytes (u ∷ us) zero = omega arith
are_bytes (u ∷ us) (suc zero) = omega arith
are_bytes (u ∷ us) (suc (suc i)) = are_bytes us i

pub decode_digits : (units : List ℕ) → decode_of standard_no_pad (base64_of units) ≡ Ok (unit_bytes units)
unfolding base64_of
decode_digits units = decode_of-encode_of standard_no_pad (unit_bytes units) refl (are_bytes units)

abbrev ok_value : Result (List ℕ) DecodeError → List ℕ
ok_value (Ok bytes) = bytes
ok_value _ = []

unit_same : (u v : ℕ) → u < 2 ^ 16 → v < 2 ^ 16 → to_be_bytes w16 u ≡ to_be_bytes w16 v → u ≡ v
unit_same u v small other same =
    sym (from_be_bytes-to_be_bytes_2 u small) ∙ ap (from_be_bytes w16) same ∙ from_be_bytes-to_be_bytes_2 v other

-- units of the same bytes are the same
pub units_same : (us vs : List ℕ) → AreSmall us → AreSmall vs → unit_bytes us ≡ unit_bytes vs → us ≡ vs
units_same [] [] small other same = refl
units_same [] (v ∷ vs) small other same = absurd (omega (arith, ap length same))
units_same (u ∷ us) [] small other same = absurd (omega (arith, ap length same))
units_same (u ∷ us) (v ∷ vs) small other same =
    ap₂ (λ x xs. x ∷ xs) (unit_same u v small.0 other.0 (ap (take 2) same)) (units_same us vs small.1 other.1 (ap (drop 2) same))

pub bytes_same : (us vs : List ℕ) → base64_of us ≡ base64_of vs → unit_bytes us ≡ unit_bytes vs
bytes_same us vs same =
    ap ok_value (sym (decode_digits us) ∙ ap (decode_of standard_no_pad) same ∙ decode_digits vs)

-- units of the same digits are the same
pub digits_same : (us vs : List ℕ) → AreSmall us → AreSmall vs → base64_of us ≡ base64_of vs → us ≡ vs
digits_same us vs small other same = units_same us vs small other (bytes_same us vs same)

abbrev symbols : List ℕ
symbols = engine_symbols standard_no_pad

all_symbols : list_all is_base64 symbols ≡ true
all_symbols = refl

symbol : (k : ℕ) → k < 64 → is_base64 (get_or symbols k 0) ≡ true
symbol k below = elim (cases_Bool (is_base64 (get_or symbols k 0))) [
  | inl passes ↦ passes
  | inr fails ↦ absurd (true≢false (sym all_symbols ∙ list_all_at is_base64 symbols k 0 below fails))
]

symbols_pass : (m : List ℕ) → AllByRecursion (λ b. b < 256) m → list_all is_base64 (encode_symbols symbols m) ≡ true
unfolding encode_symbols
symbols_pass [] h = refl
symbols_pass (a ∷ []) h = both_true (symbol (a / 4) (omega (arith, h.0))) (both_true (symbol (a % 4 * 16) (omega arith)) refl)
symbols_pass (a ∷ b ∷ []) h =
    both_true (symbol (a / 4) (omega (arith, h.0))) (both_true (symbol (a % 4 * 16 + b / 16) (omega (arith, h.1.0))) (both_true (symbol (b % 16 * 4) (omega arith)) refl))
symbols_pass (a ∷ b ∷ c ∷ rest) h =
    both_true (symbol (a / 4) (omega (arith, h.0))) (both_true (symbol (a % 4 * 16 + b / 16) (omega (arith, h.1.0))) (both_true (symbol (b % 16 * 4 + c / 64) (omega (arith, h.1.1.0))) (both_true (symbol (c % 64) (omega arith)) (symbols_pass rest h.1.1.1))))

small_bytes : (units : List ℕ) → AllByRecursion (λ b. b < 256) (unit_bytes units)
small_bytes [] = tt
small_bytes (u ∷ us) = (omega arith, (omega arith, small_bytes us))

pub digits_pass : (units : List ℕ) → list_all is_base64 (base64_of units) ≡ true
unfolding base64_of
digits_pass units = rw (append-nil (encode_symbols symbols (unit_bytes units))) (symbols_pass (unit_bytes units) (small_bytes units))

-- there is a digit where there is a unit
pub some_digit : (units : List ℕ) → 0 < length units → 0 < length (base64_of units)
unfolding base64_of encode_symbols
some_digit [] some = some
some_digit (u ∷ []) some = lit< tt
some_digit (u ∷ v ∷ us) some = omega arith

-- digits end before these bytes
abbrev pub StopsDigits : List ℕ → Type 0
StopsDigits [] = ⊤
StopsDigits (byte ∷ bytes) = is_base64 byte ≡ false

pub digits_stop : (ds more : List ℕ) → list_all is_base64 ds ≡ true → StopsDigits more → take_while is_base64 (ds ++ more) ≡ ds
digits_stop [] [] all stops = refl
digits_stop [] (b ∷ more) all stops = take_while-cons is_base64 b more ∙ ap (λ t. cond t (b ∷ take_while is_base64 more) []) stops
digits_stop (d ∷ ds) more all stops =
    let parts = and_parts _ _ all in
    take_while-cons is_base64 d (ds ++ more) ∙ ap (λ t. cond t (d ∷ take_while is_base64 (ds ++ more)) []) parts.0 ∙ ap (λ xs. d ∷ xs) (digits_stop ds more parts.1 stops)

-- what begins with all the digits of some units, and of others too
pub split_same : (us vs more other : List ℕ) → StopsDigits more → StopsDigits other → base64_of us ++ more ≡ base64_of vs ++ other → (base64_of us ≡ base64_of vs) × (more ≡ other)
split_same us vs more other stops ends same =
    let one = sym (digits_stop (base64_of us) more (digits_pass us) stops) ∙ ap (take_while is_base64) same ∙ digits_stop (base64_of vs) other (digits_pass vs) ends in
    (one, append_cancel_left (base64_of vs) more other (subst (λ ds. ds ++ more ≡ base64_of vs ++ other) one same))

-- what decodes isn't refused
pub not_refused : (s units : List ℕ) (fault : DecodeError) → s ≡ base64_of units → decode_of standard_no_pad s ≡ Err fault → ⊥
not_refused s units fault same refused =
    true≢false (ap is_ok (sym (decode_digits units) ∙ ap (decode_of standard_no_pad) (sym same) ∙ refused))

-- digits decode to the bytes of their units
pub decoded : (s units bytes : List ℕ) → s ≡ base64_of units → decode_of standard_no_pad s ≡ Ok bytes → bytes ≡ unit_bytes units
decoded s units bytes same ok =
    ap ok_value (sym ok ∙ ap (decode_of standard_no_pad) same ∙ decode_digits units)

pub even_bytes : (units : List ℕ) → length (unit_bytes units) % 2 ≡ 0
even_bytes [] = refl
even_bytes (u ∷ us) = let even = even_bytes us in omega (arith, even)

-- a shift that is written in three parts
pub three_parts : (out one two three first ds last : List ℕ) → one ≡ out ++ first → first ≡ 43 ∷ [] → two ≡ one ++ ds → three ≡ two ++ last → last ≡ 45 ∷ [] → three ≡ out ++ (43 ∷ (ds ++ 45 ∷ []))
three_parts out one two three first ds last h plus g k dash =
    rw (k, g, h, plus, dash, append_assoc out (43 ∷ []) ds) (append_assoc out (43 ∷ ds) (45 ∷ []))
