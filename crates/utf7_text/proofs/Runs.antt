-- Texts cut into runs, as they are written.
use Rattle.std.proofs.Common.{◌≡◌, ℕ, ◌<◌, ◌==◌, tests, ne_eqb, length-append, Bool, true, false, true≢false, cond, if◌then◌else◌, List, [], ◌∷◌, ◌++◌, length, flat_map, refl, sym, ap, ap₂, ◌∙◌, subst, arith, inl, inr, append-nil, append_assoc, chars, IsUtf8, encode_utf8, encode_utf8_all}
use Rattle.std.proofs.Math.Utf8.{scalar}
use Rattle.std.proofs.lemmas.Bool.{and_parts, cases_Bool}
use Rattle.std.proofs.lemmas.Bool.Decides.{nat_tests}
use Rattle.std.proofs.lemmas.Str.{IsUtf8-past_char, chars-nil, chars_past_char, encodes-chars, scalars-chars}
use Rattle.std.specs.Cmp.Derive.{both_true}
use Rattle.std.specs.Char.Escape.{encode_utf16}
use Rattle.std.specs.Char.Utf16.{utf16_lossy_chars}
use Rattle.std.specs.List.{AllByRecursion}
use Rattle.std.specs.Str.{all_scalars}
use Rattle.utf7_text.specs.Pieces.{AreUnits, MayStand, Piece, Direct, Plus, Shift, bytes_of, characters_of, is_direct}
use Rattle.utf7_text.specs.Readings.{CutsInto, IsReading}
use Rattle.utf7_text.specs.Writing.{in_front, is_plain, pieces_of, written}
use Rattle.utf7_text.proofs.Cutting.{one_reading}
use Rattle.utf7_text.proofs.Units.{are_units, lossy_units, some_unit, units_of}

-- the units of some characters, in a closed shift
record Closes (units : List ℕ) (closed : Bool) : Type 0 where
  end : closed ≡ true
  spelled : List ℕ
  scalars : all_scalars spelled ≡ true
  are : units ≡ units_of spelled
  some : 0 < length units

abbrev IsRun : Piece → Type 0
IsRun (Direct byte) = is_direct byte ≡ true
IsRun Plus = ⊥
IsRun (Shift units closed) = Closes units closed

-- a plain character is a direct byte
plain_direct : (c : ℕ) → is_plain c ≡ true → is_direct c ≡ true
plain_direct c plain = grind (arith, tests, nat_tests)

one_closes : (c : ℕ) → scalar c ≡ true → Closes (encode_utf16 c) true
one_closes c s =
    record { end = refl; spelled = c ∷ []; scalars = both_true s refl; are = sym (append-nil (encode_utf16 c)); some = some_unit c s }

more_closes : (c : ℕ) (more : List ℕ) (closed : Bool) → scalar c ≡ true → Closes more closed → Closes (encode_utf16 c ++ more) closed
more_closes c more closed s closes =
    let len = length-append (encode_utf16 c) more in
    let some = some_unit c s in
    record { end = closes.end; spelled = c ∷ closes.spelled; scalars = both_true s closes.scalars; are = ap (λ us. encode_utf16 c ++ us) closes.are; some = omega (arith, len, some) }

stands_for : (units : List ℕ) (closed : Bool) → (closes : Closes units closed) → utf16_lossy_chars units ≡ closes.spelled
stands_for units closed closes = ap utf16_lossy_chars closes.are ∙ lossy_units closes.spelled closes.scalars

abbrev AreRuns : List Piece → Type 0
AreRuns pieces = AllByRecursion IsRun pieces

-- a character comes into the run at the front
joins : (c : ℕ) (ps : List Piece) → scalar c ≡ true → AreRuns ps → AreRuns (in_front (encode_utf16 c) ps) × (flat_map characters_of (in_front (encode_utf16 c) ps) ≡ c ∷ flat_map characters_of ps)
unfolding one_closes more_closes
joins c [] s runs = let one = one_closes c s in ((one, tt), ap (λ cs. cs ++ []) (stands_for (encode_utf16 c) true one))
joins c (Direct byte ∷ ps) s runs =
    let one = one_closes c s in ((one, runs), ap (λ cs. cs ++ (byte ∷ flat_map characters_of ps)) (stands_for (encode_utf16 c) true one))
joins c (Plus ∷ ps) s runs = absurd runs.0
joins c (Shift more closed ∷ ps) s runs =
    let all = more_closes c more closed s runs.0 in
    let rest = flat_map characters_of ps in
    ((all, runs.1), ap (λ cs. cs ++ rest) (stands_for (encode_utf16 c ++ more) closed all) ∙ ap (λ cs. c ∷ (cs ++ rest)) (sym (stands_for more closed runs.0)))

plain_piece : (c : ℕ) (cs : List ℕ) → is_plain c ≡ true → pieces_of (c ∷ cs) ≡ Direct c ∷ pieces_of cs
plain_piece c cs plain = ap (λ b. cond b (Direct c ∷ pieces_of cs) (in_front (encode_utf16 c) (pieces_of cs))) plain

other_piece : (c : ℕ) (cs : List ℕ) → is_plain c ≡ false → pieces_of (c ∷ cs) ≡ in_front (encode_utf16 c) (pieces_of cs)
other_piece c cs other = ap (λ b. cond b (Direct c ∷ pieces_of cs) (in_front (encode_utf16 c) (pieces_of cs))) other

abbrev StandFor : List Piece → List ℕ → Type 0
StandFor pieces characters = AreRuns pieces × (flat_map characters_of pieces ≡ characters)

-- the pieces of characters are runs, and stand for the characters
stand : (cs : List ℕ) → all_scalars cs ≡ true → StandFor (pieces_of cs) cs
stand [] s = (tt, refl)
stand (c ∷ cs) s =
    let parts = and_parts _ _ s in
    let rest = stand cs parts.1 in
    elim (cases_Bool (is_plain c)) [
      | inl plain ↦
          subst (λ ps. StandFor ps (c ∷ cs)) (sym (plain_piece c cs plain)) ((plain_direct c plain, rest.0), ap (λ xs. c ∷ xs) rest.1)
      | inr other ↦
          let joined = joins c (pieces_of cs) parts.0 rest.0 in
          subst (λ ps. StandFor ps (c ∷ cs)) (sym (other_piece c cs other)) (joined.0, joined.1 ∙ ap (λ xs. c ∷ xs) rest.1)
    ]

may_stand : (p : Piece) (after : List ℕ) → IsRun p → MayStand p after
may_stand (Direct byte) after run = run
may_stand Plus after run = tt
may_stand (Shift units closed) after run =
    let len = ap length run.are in
    let some = run.some in
    (subst AreUnits (sym run.are) (are_units run.spelled run.scalars (omega (arith, len, some))), λ unclosed. absurd (true≢false (sym run.end ∙ unclosed)))

cut_runs : (ps : List Piece) → AreRuns ps → CutsInto (flat_map bytes_of ps) ps []
cut_runs [] runs = refl
cut_runs (p ∷ ps) runs = (flat_map bytes_of ps, (refl, may_stand p (flat_map bytes_of ps) runs.0), cut_runs ps runs.1)

-- What is written reads back.
pub reads_back : (text : List ℕ) → IsUtf8 text → IsReading (written text) text
reads_back text utf8 =
    let all = stand (chars text) (scalars-chars text utf8) in
    (pieces_of (chars text), cut_runs (pieces_of (chars text)) all.0, sym (encodes-chars text utf8) ∙ ap encode_utf8_all (sym all.1))

-- And nothing else is written so.
pub written_once : (text other : List ℕ) → IsUtf8 text → IsUtf8 other → written text ≡ written other → text ≡ other
written_once text other utf8 second same =
    one_reading (written text) text other (reads_back text utf8) (subst (λ bytes. IsReading bytes other) (sym same) (reads_back other second))

-- the pieces behind units that wait for their shift
abbrev pub held_before : List ℕ → List Piece → List Piece
held_before [] pieces = pieces
held_before (unit ∷ units) pieces = in_front (unit ∷ units) pieces

-- the bytes that close what waits
abbrev pub closing : List ℕ → List ℕ
closing held = if length held == 0 then [] else bytes_of (Shift held true)

closing_some : (unit : ℕ) (units : List ℕ) → closing (unit ∷ units) ≡ bytes_of (Shift (unit ∷ units) true)
closing_some unit units =
    ap (λ b. cond b [] (bytes_of (Shift (unit ∷ units) true))) (ne_eqb (length (unit ∷ units)) 0 (λ none. omega (arith, none)))

at_plain : (held : List ℕ) (c : ℕ) (ps : List Piece) → flat_map bytes_of (held_before held (Direct c ∷ ps)) ≡ closing held ++ (c ∷ flat_map bytes_of ps)
at_plain [] c ps = refl
at_plain (unit ∷ units) c ps = ap (λ xs. xs ++ (c ∷ flat_map bytes_of ps)) (sym (closing_some unit units))

pub at_end : (held : List ℕ) → flat_map bytes_of (held_before held []) ≡ closing held
at_end [] = refl
at_end (unit ∷ units) = append-nil (bytes_of (Shift (unit ∷ units) true)) ∙ sym (closing_some unit units)

join_twice : (us vs : List ℕ) (ps : List Piece) → in_front (us ++ vs) ps ≡ in_front us (in_front vs ps)
join_twice us vs [] = refl
join_twice us vs (Direct byte ∷ ps) = refl
join_twice us vs (Plus ∷ ps) = refl
join_twice us vs (Shift more closed ∷ ps) = ap (λ xs. Shift xs closed ∷ ps) (append_assoc us vs more)

at_other : (held us : List ℕ) (ps : List Piece) → 0 < length us → held_before (held ++ us) ps ≡ held_before held (in_front us ps)
at_other [] [] ps some = absurd (omega (arith, some))
at_other [] (u ∷ us) ps some = refl
at_other (h ∷ held) us ps some = join_twice (h ∷ held) us ps

-- what is written so far, and what the rest will be written as behind the units that wait
abbrev pub Writes : List ℕ → List ℕ → List ℕ → List ℕ → Type 0
Writes out held rest whole = out ++ flat_map bytes_of (held_before held (pieces_of rest)) ≡ whole

pub writes_plain : (out closed new held none rest whole : List ℕ) (c : ℕ) → Writes out held (c ∷ rest) whole → is_plain c ≡ true → closed ≡ out ++ closing held → none ≡ [] → new ≡ closed ++ (c ∷ []) → Writes new none rest whole
writes_plain out closed new held none rest whole c writes plain h empty g =
    let bytes = flat_map bytes_of (pieces_of rest) in
    ap₂ (λ xs us. xs ++ flat_map bytes_of (held_before us (pieces_of rest))) (g ∙ ap (λ xs. xs ++ (c ∷ [])) h) empty
    ∙ append_assoc (out ++ closing held) (c ∷ []) bytes
    ∙ append_assoc out (closing held) (c ∷ bytes)
    ∙ ap (λ xs. out ++ xs) (sym (ap (λ ps. flat_map bytes_of (held_before held ps)) (plain_piece c rest plain) ∙ at_plain held c (pieces_of rest)))
    ∙ writes

pub writes_other : (out held more rest whole : List ℕ) (c : ℕ) → Writes out held (c ∷ rest) whole → is_plain c ≡ false → scalar c ≡ true → more ≡ held ++ encode_utf16 c → Writes out more rest whole
writes_other out held more rest whole c writes other s h =
    ap (λ ps. out ++ flat_map bytes_of ps) (ap (λ us. held_before us (pieces_of rest)) h ∙ at_other held (encode_utf16 c) (pieces_of rest) (some_unit c s) ∙ ap (held_before held) (sym (other_piece c rest other)))
    ∙ writes

pub plain_below : (c : ℕ) → is_plain c ≡ true → c < 128
plain_below c plain = grind (arith, tests, nat_tests)

-- the next character of a text
pub next_char : (rest after : List ℕ) (c : ℕ) → IsUtf8 rest → rest ≡ encode_utf8 c ++ after → (chars rest ≡ c ∷ chars after) × IsUtf8 after × (scalar c ≡ true)
next_char rest after c utf8 step =
    let all = chars_past_char rest after c utf8 step in
    (all, IsUtf8-past_char rest after c utf8 step, (and_parts _ _ (sym (ap all_scalars all) ∙ scalars-chars rest utf8)).0)

no_chars : (rest : List ℕ) → length rest ≡ 0 → chars rest ≡ []
no_chars [] none = chars-nil
no_chars (b ∷ rest) none = absurd (omega (arith, none))

pub writes_end : (out new held rest whole : List ℕ) → Writes out held (chars rest) whole → length rest ≡ 0 → new ≡ out ++ closing held → new ≡ whole
writes_end out new held rest whole writes none h =
    h ∙ ap (λ xs. out ++ xs) (sym (at_end held)) ∙ ap (λ cs. out ++ flat_map bytes_of (held_before held (pieces_of cs))) (sym (no_chars rest none)) ∙ writes
