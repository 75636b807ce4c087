-- How bytes are cut into pieces: in one way.
use Rattle.std.proofs.Common.{◌≡◌, ℕ, ◌+◌, ◌-◌, ◌<◌, ◌≤◌, Some, None, take, take_all, length-drop, drop-drop, subst₂, Bool, true, false, true≢false, List, [], ◌∷◌, ◌++◌, length, get_or, drop, flat_map, refl, sym, ap, ap₂, ◌∙◌, subst, arith, append_assoc, append-nil, get_or-append-add, inl, inr, length-append, encode_utf8_all}
use Rattle.std.proofs.lemmas.Bool.{and_parts, cases_Bool}
use Rattle.std.proofs.lemmas.Grind.{flat_map-append}
use Rattle.std.proofs.lemmas.Str.{encodes-append}
use Rattle.utf7_text.specs.Pieces.{AreUnits, EndsShift, MayStand, Piece, Direct, Plus, Shift, bytes_of, characters_of, base64_of, is_base64, is_direct}
use Rattle.utf7_text.specs.Readings.{Begins, BeginsNoPiece, CutsInto, IsBadAt, IsReading, ReadsUpTo, TakesPiece, text_of}
use Rattle.utf7_text.proofs.Digits.{StopsDigits, digits_pass, digits_same, some_digit, split_same}
use Rattle.std.specs.List.{list_all}

-- the `-` of a shift, if it has one
abbrev pub dash : Bool → List ℕ
dash true = 45 ∷ []
dash false = []

pub shift_stops : (closed : Bool) (after : List ℕ) → (closed ≡ false → EndsShift after) → StopsDigits (dash closed ++ after)
shift_stops true after ends = refl
shift_stops false [] ends = tt
shift_stops false (b ∷ after) ends = (ends refl).0

-- a shift, its digits and what stands after those
pub shift_bytes : (units after : List ℕ) (closed : Bool) → bytes_of (Shift units closed) ++ after ≡ 43 ∷ (base64_of units ++ (dash closed ++ after))
shift_bytes units after true = ap (λ xs. 43 ∷ xs) (append_assoc (base64_of units) (45 ∷ []) after)
shift_bytes units after false = ap (λ xs. 43 ∷ xs) (append_assoc (base64_of units) [] after)

heads : (x y : ℕ) (xs ys : List ℕ) → x ∷ xs ≡ y ∷ ys → x ≡ y
heads x y xs ys same = ap (λ zs. get_or zs 0 0) same

tails : (x y : ℕ) (xs ys : List ℕ) → x ∷ xs ≡ y ∷ ys → xs ≡ ys
tails x y xs ys same = ap (drop 1) same

pub plus_not_direct : (x : ℕ) → x ≡ 43 → is_direct x ≡ true → ⊥
plus_not_direct x is direct = true≢false (sym direct ∙ ap is_direct is)

-- digits don't begin with `-`
first_digit : (ds more after : List ℕ) → 0 < length ds → list_all is_base64 ds ≡ true → ds ++ more ≡ 45 ∷ after → ⊥
first_digit [] more after some all same = absurd (omega (arith, some))
first_digit (d ∷ ds) more after some all same =
    true≢false (sym (and_parts _ _ all).0 ∙ ap is_base64 (heads d 45 (ds ++ more) after same))

dashes : (c d : Bool) (a b : List ℕ) → (c ≡ false → EndsShift a) → (d ≡ false → EndsShift b) → dash c ++ a ≡ dash d ++ b → (c ≡ d) × (a ≡ b)
dashes true true a b _ _ same = (refl, tails 45 45 a b same)
dashes false false a b _ _ same = (refl, same)
dashes true false a [] _ ends same = absurd (omega (arith, ap length same))
dashes true false a (x ∷ b) _ ends same = absurd ((ends refl).1 (sym (heads 45 x a b same)))
dashes false true [] b ends _ same = absurd (omega (arith, ap length same))
dashes false true (x ∷ a) b ends _ same = absurd ((ends refl).1 (heads x 45 a b same))

pub not_plus_shift : (after units more : List ℕ) (closed : Bool) → AreUnits units → 43 ∷ 45 ∷ after ≡ bytes_of (Shift units closed) ++ more → ⊥
not_plus_shift after units more closed are same =
    first_digit (base64_of units) (dash closed ++ more) after (some_digit units are.some) (digits_pass units)
    (sym (tails 43 43 (45 ∷ after) (base64_of units ++ (dash closed ++ more)) (same ∙ shift_bytes units more closed)))

not_direct_shift : (x : ℕ) (after units more : List ℕ) (closed : Bool) → is_direct x ≡ true → x ∷ after ≡ bytes_of (Shift units closed) ++ more → ⊥
not_direct_shift x after units more closed direct same =
    plus_not_direct x (heads x 43 after (base64_of units ++ (dash closed ++ more)) (same ∙ shift_bytes units more closed)) direct

shifts_same : (us vs a b : List ℕ) (c d : Bool) → MayStand (Shift us c) a → MayStand (Shift vs d) b → bytes_of (Shift us c) ++ a ≡ bytes_of (Shift vs d) ++ b → (Shift us c ≡ Shift vs d) × (a ≡ b)
shifts_same us vs a b c d stands other same =
    let inner = tails 43 43 (base64_of us ++ (dash c ++ a)) (base64_of vs ++ (dash d ++ b)) (sym (shift_bytes us a c) ∙ same ∙ shift_bytes vs b d) in
    let split = split_same us vs (dash c ++ a) (dash d ++ b) (shift_stops c a stands.1) (shift_stops d b other.1) inner in
    let ends = dashes c d a b stands.1 other.1 split.1 in
    (ap₂ Shift (digits_same us vs stands.0.small other.0.small split.0) ends.0, ends.1)

same_start : (p q : Piece) (a b : List ℕ) → MayStand p a → MayStand q b → bytes_of p ++ a ≡ bytes_of q ++ b → (p ≡ q) × (a ≡ b)
same_start (Direct x) (Direct y) a b h g same = (ap Direct (heads x y a b same), tails x y a b same)
same_start (Direct x) Plus a b h g same = absurd (plus_not_direct x (heads x 43 a (45 ∷ b) same) h)
same_start (Direct x) (Shift vs d) a b h g same = absurd (not_direct_shift x a vs b d h same)
same_start Plus (Direct y) a b h g same = absurd (plus_not_direct y (sym (heads 43 y (45 ∷ a) b same)) g)
same_start Plus Plus a b h g same = (refl, ap (drop 2) same)
same_start Plus (Shift vs d) a b h g same = absurd (not_plus_shift a vs b d g.0 same)
same_start (Shift us c) (Direct y) a b h g same = absurd (not_direct_shift y b us a c g (sym same))
same_start (Shift us c) Plus a b h g same = absurd (not_plus_shift b us a c h.0 (sym same))
same_start (Shift us c) (Shift vs d) a b h g same = shifts_same us vs a b c d h g same

-- one piece begins the bytes
pub one_piece : (bytes a b : List ℕ) (p q : Piece) → Begins bytes p a → Begins bytes q b → (p ≡ q) × (a ≡ b)
one_piece bytes a b p q begins other = same_start p q a b begins.1 other.1 (sym begins.0 ∙ other.0)

-- what can be cut no further is cut in one way
pub one_cut : (ps qs : List Piece) (bytes r s : List ℕ) → CutsInto bytes ps r → CutsInto bytes qs s → BeginsNoPiece r → BeginsNoPiece s → (ps ≡ qs) × (r ≡ s)
one_cut [] [] bytes r s cut other stuck end = (refl, sym cut ∙ other)
one_cut [] (q ∷ qs) bytes r s cut other stuck end = absurd (stuck q other.0 (subst (λ xs. Begins xs q other.0) cut other.1))
one_cut (p ∷ ps) [] bytes r s cut other stuck end = absurd (end p cut.0 (subst (λ xs. Begins xs p cut.0) other cut.1))
one_cut (p ∷ ps) (q ∷ qs) bytes r s cut other stuck end =
    let same = one_piece bytes cut.0 other.0 p q cut.1 other.1 in
    let rest = one_cut ps qs cut.0 r s cut.2 (subst (λ xs. CutsInto xs qs s) (sym same.1) other.2) stuck end in
    (ap₂ (λ x xs. x ∷ xs) same.0 rest.0, rest.1)

none_short : (p : Piece) (after : List ℕ) → 0 < length (bytes_of p ++ after)
none_short (Direct x) after = omega arith
none_short Plus after = omega arith
none_short (Shift us c) after = omega arith

-- no piece begins what is empty
pub empty_begins : BeginsNoPiece []
empty_begins p after begins = let some = none_short p after in let same = ap length begins.0 in omega (arith, some, same)

-- Bytes have one reading.
pub one_reading : (bytes text other : List ℕ) → IsReading bytes text → IsReading bytes other → text ≡ other
one_reading bytes text other reading second =
    let same = one_cut reading.0 second.0 bytes [] [] reading.1 second.1 empty_begins empty_begins in
    reading.2 ∙ ap text_of same.0 ∙ sym second.2

-- Bytes that are bad somewhere have none.
pub no_reading : (bytes text : List ℕ) (at : ℕ) → IsReading bytes text → IsBadAt bytes at → ⊥
no_reading bytes text at reading bad =
    let same = one_cut reading.0 bad.before.0 bytes [] bad.rest reading.1 bad.before.1 empty_begins bad.bad in
    let len = ap length same.1 in
    let some = bad.some in
    omega (arith, len, some)

-- And they are bad at one place.
pub one_place : (bytes : List ℕ) (at place : ℕ) → IsBadAt bytes at → IsBadAt bytes place → at ≡ place
one_place bytes at place bad other =
    let same = one_cut bad.before.0 other.before.0 bytes bad.rest other.rest bad.before.1 other.before.1 bad.bad other.bad in
    let len = ap length same.1 in
    let here = bad.place in
    let there = other.place in
    omega (arith, len, here, there)

cut_more : (ps : List Piece) (p : Piece) (bytes rest after : List ℕ) → CutsInto bytes ps rest → Begins rest p after → CutsInto bytes (ps ++ p ∷ []) after
cut_more [] p bytes rest after cut begins = (after, subst (λ xs. Begins xs p after) (sym cut) begins, refl)
cut_more (q ∷ ps) p bytes rest after cut begins = (cut.0, cut.1, cut_more ps p cut.0 rest after cut.2 begins)

text_more : (ps : List Piece) (p : Piece) → text_of (ps ++ p ∷ []) ≡ text_of ps ++ encode_utf8_all (characters_of p)
text_more ps p =
    ap encode_utf8_all (flat_map-append characters_of ps (p ∷ []) ∙ ap (λ cs. flat_map characters_of ps ++ cs) (append-nil (characters_of p)))
    ∙ encodes-append (flat_map characters_of ps) (characters_of p)

-- one piece more is read
pub read_more : (bytes rest after text : List ℕ) (p : Piece) → ReadsUpTo bytes rest text → Begins rest p after → ReadsUpTo bytes after (text ++ encode_utf8_all (characters_of p))
read_more bytes rest after text p read begins =
    (read.0 ++ p ∷ [], cut_more read.0 p bytes rest after read.1 begins, ap (λ t. t ++ encode_utf8_all (characters_of p)) read.2 ∙ sym (text_more read.0 p))

-- what a slice from a place on is
pub whole_rest : (bytes : List ℕ) (at : ℕ) → take (length bytes - at) (drop at bytes) ≡ drop at bytes
whole_rest bytes at = let len = length-drop at bytes in take_all (length bytes - at) (drop at bytes) (omega (arith, len))

-- one piece more is read, at its place
pub read_on : (bytes text new : List ℕ) (at len : ℕ) → at ≤ length bytes → ReadsUpTo bytes (drop at bytes) text → TakesPiece (take (length bytes - at) (drop at bytes)) text new (Some len) → (at + len ≤ length bytes) × ReadsUpTo bytes (drop (at + len) bytes) new
read_on bytes text new at len inside read taken =
    let took = subst (λ xs. TakesPiece xs text new (Some len)) (whole_rest bytes at) taken in
    let left = length-drop at bytes in
    let bound = took.4 in
    (omega (arith, inside, left, bound), subst₂ (ReadsUpTo bytes) (drop-drop len at bytes) (sym took.2) (read_more bytes (drop at bytes) (drop len (drop at bytes)) text took.0 read took.1))

-- no piece stands at the place up to which the bytes are read
pub bad_at : (bytes text new : List ℕ) (at : ℕ) → at < length bytes → ReadsUpTo bytes (drop at bytes) text → TakesPiece (take (length bytes - at) (drop at bytes)) text new None → IsBadAt bytes at
bad_at bytes text new at inside read stuck =
    let left = length-drop at bytes in
    record {
      rest = drop at bytes;
      text = text;
      before = read;
      place = omega (arith, inside, left);
      some = omega (arith, inside, left);
      bad = subst (λ xs. TakesPiece xs text new None) (whole_rest bytes at) stuck;
    }

pub bad_inside : (bytes : List ℕ) (at : ℕ) → IsBadAt bytes at → at < length bytes
bad_inside bytes at bad = let place = bad.place in let some = bad.some in omega (arith, place, some)

-- the rest is what stands after some bytes
cut_end : (ps : List Piece) (bytes rest : List ℕ) → CutsInto bytes ps rest → (front : List ℕ) × (bytes ≡ front ++ rest)
cut_end [] bytes rest cut = ([], cut)
cut_end (p ∷ ps) bytes rest cut =
    let end = cut_end ps cut.0 rest cut.2 in
    (bytes_of p ++ end.0, cut.1.0 ∙ ap (λ xs. bytes_of p ++ xs) end.1 ∙ sym (append_assoc (bytes_of p) end.0 rest))

first_not_direct : (rest : List ℕ) → 0 < length rest → BeginsNoPiece rest → is_direct (get_or rest 0 0) ≡ false
first_not_direct [] some stuck = absurd (omega (arith, some))
first_not_direct (x ∷ rest) some stuck = elim (cases_Bool (is_direct x)) [
  | inl direct ↦ absurd (stuck (Direct x) rest (refl, direct))
  | inr other ↦ other
]

-- a fault lies at a byte that doesn't stand for itself
pub bad_not_direct : (bytes : List ℕ) (at : ℕ) → IsBadAt bytes at → is_direct (get_or bytes at 0) ≡ false
bad_not_direct bytes at bad =
    let end = cut_end bad.before.0 bytes bad.rest bad.before.1 in
    let len = ap length end.1 ∙ length-append end.0 bad.rest in
    let place = bad.place in
    let here : at ≡ length end.0 + 0 = omega (arith, len, place) in
    let byte : get_or bytes at 0 ≡ get_or bad.rest 0 0 = ap₂ (λ xs n. get_or xs n 0) end.1 here ∙ get_or-append-add end.0 bad.rest 0 0 in
    ap is_direct byte ∙ first_not_direct bad.rest bad.some bad.bad
