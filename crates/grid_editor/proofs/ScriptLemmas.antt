-- The lines of a text, and what they say.
use Rattle.std.proofs.Common.{◌≡◌, ◌≢◌, ℕ, ◌+◌, ◌-◌, ◌*◌, ◌<◌, ◌≤◌, ◌==◌, ◌⊎◌, Bool, true, false, cond, List, [], ◌∷◌, ◌++◌, Result, Ok, Err, length, get_or, take, drop, refl, sym, ap, ◌∙◌, subst, arith, append_assoc, append-nil, inl, inr}
use Rattle.std.specs.Prelude.{IfErr, OnOk, Option, None, Some}
use Rattle.std.specs.Io.KnownBytes.{IsAtEnd}
use Rattle.line_text.specs.declared.input.InputFault.{InputFault}
use Rattle.line_text.specs.declared.input.InputFault.TheVariants.{Read, Text}
use Rattle.line_text.specs.Inputs.{HasRead}
use Rattle.line_text.proofs.WholeInputs.{at_its_end, whole_of}
use Rattle.grid_editor.specs.Inputs.{IsInputRead, IsRefused, IsUndecided}
use Rattle.std.specs.List.{AllByRecursion}
use Rattle.std.proofs.lemmas.List.{length-append, take-append-drop, take_more}
use Rattle.std.proofs.lemmas.Bool.{ne_eqb}
use Rattle.grid_editor.specs.declared.command.Command.{Command}
use Rattle.grid_editor.specs.declared.script.Reader.{Reader}
use Rattle.grid_editor.specs.declared.script.ScriptFault.{ScriptFault}
use Rattle.grid_editor.specs.declared.script.ScriptFault.TheVariants.{BadCommand, Memory}
use Rattle.grid_editor.specs.Commands.{Says, IsIdle}
use Rattle.grid_editor.specs.Scripts.{AreGood, IsBad, IsFirstBad, IsRead, IsShort, SayAll, lines_of, most_bytes, most_lines, onto_first}
use Rattle.grid_editor.specs.Reading.{IsLine, IsSoFar, IsReadThrough, Adds, Ends, IsLineFault, room_of}

-- ---- lines

not_feed : (b : ℕ) (x y : List (List ℕ)) → b ≢ 10 → cond (b == 10) x y ≡ y
not_feed b x y h = rw (ne_eqb b 10 h) refl

pub lines_of-feed : (line more : List ℕ) → IsLine line → lines_of (line ++ (10 ∷ more)) ≡ line ∷ lines_of more
lines_of-feed [] more is = refl
lines_of-feed (b ∷ line) more is =
    not_feed b ([] ∷ lines_of (line ++ (10 ∷ more))) (onto_first b (lines_of (line ++ (10 ∷ more)))) is.0 ∙ ap (onto_first b) (lines_of-feed line more is.1)

pub lines_of-end : (line : List ℕ) → IsLine line → 0 < length line → lines_of line ≡ line ∷ []
lines_of-end [] is some = absurd (omega (arith, some))
lines_of-end (b ∷ []) is some = not_feed b ([] ∷ []) ((b ∷ []) ∷ []) is.0
lines_of-end (b ∷ c ∷ line) is some =
    not_feed b ([] ∷ lines_of (c ∷ line)) (onto_first b (lines_of (c ∷ line))) is.0 ∙ ap (onto_first b) (lines_of-end (c ∷ line) is.1 (omega arith))

-- a first line that begins so
record FirstLine (line text : List ℕ) : Type 0 where
  rest : List ℕ
  after : List (List ℕ)
  lines : lines_of text ≡ (line ++ rest) ∷ after

onto : (b : ℕ) (lines : List (List ℕ)) → (rest : List ℕ) × (after : List (List ℕ)) × (onto_first b lines ≡ (b ∷ rest) ∷ after)
onto b [] = ([], [], refl)
onto b (line ∷ lines) = (line, lines, refl)

first_line : (line more : List ℕ) → IsLine line → 0 < length line → FirstLine line (line ++ more)
first_line [] more is some = absurd (omega (arith, some))
first_line (b ∷ []) more is some =
    let put = onto b (lines_of more) in
    record { rest = put.0; after = put.1; lines = not_feed b ([] ∷ lines_of more) (onto_first b (lines_of more)) is.0 ∙ put.2 }
first_line (b ∷ c ∷ line) more is some =
    let later = first_line (c ∷ line) more is.1 (omega arith) in
    record {
      rest = later.rest;
      after = later.after;
      lines = not_feed b ([] ∷ lines_of ((c ∷ line) ++ more)) (onto_first b (lines_of ((c ∷ line) ++ more))) is.0 ∙ ap (onto_first b) later.lines;
    }

pub IsLine-more : (line : List ℕ) (b : ℕ) → IsLine line → b ≢ 10 → IsLine (line ++ b ∷ [])
IsLine-more [] b is h = (h, tt)
IsLine-more (c ∷ line) b is h = (is.0, IsLine-more line b is.1 h)

-- ---- what lines say

say-more : (lines : List (List ℕ)) (line : List ℕ) (old new : List Command) → SayAll lines old → Adds line old new → SayAll (lines ++ line ∷ []) new
say-more [] line old new say (inl idle) = inl (idle.0, idle.1 ∙ say)
say-more [] line old new say (inr (command, says, is)) = inr (command, [], says, is ∙ ap (λ l. l ++ command ∷ []) say, refl)
say-more (x ∷ lines) line old new (inl idle) adds = inl (idle.0, say-more lines line old new idle.1 adds)
say-more (x ∷ lines) line old new (inr (first, rest, says, is, later)) (inl idle) =
    inr (first, rest, says, idle.1 ∙ is, say-more lines line rest rest later (inl (idle.0, refl)))
say-more (x ∷ lines) line old new (inr (first, rest, says, is, later)) (inr (command, said, more)) =
    inr (first, rest ++ command ∷ [], says, more ∙ ap (λ l. l ++ command ∷ []) is, say-more lines line rest (rest ++ command ∷ []) later (inr (command, said, refl)))

all-more : (lines : List (List ℕ)) (line : List ℕ) → AllByRecursion IsShort lines → IsShort line → AllByRecursion IsShort (lines ++ line ∷ [])
all-more [] line all is = (is, tt)
all-more (x ∷ lines) line all is = (all.0, all-more lines line all.1 is)

good-more : (done : List (List ℕ)) (line : List ℕ) (old new : List Command) → AreGood done old → length done < most_lines → IsShort line → Adds line old new
    → AreGood (done ++ line ∷ []) new
good-more done line old new good room short adds =
    let n = length-append done (line ∷ []) in
    record { few = omega (arith, n, room); short = all-more done line good.short short; say = say-more done line old new good.say adds }

-- ---- the reader's steps

abbrev bytes : Reader → List ℕ
bytes reader = reader.line.items

-- a line feed ends the line
pub feed_taken : (text : List ℕ) (old new : Reader) → IsSoFar text old → Ends old new → IsSoFar (text ++ 10 ∷ []) new
feed_taken text old new so ends =
    let w : old.lines < most_lines = ends.within in
    let c : old.lines ≡ length so.done = so.count in
    let n = length-append so.done (bytes old ∷ []) in
    let e = ends.count in
    let none : length (bytes new) ≡ 0 = ap length ends.empty in
    record {
      done = so.done ++ bytes old ∷ [];
      splits = λ more.
          ap lines_of (append_assoc text (10 ∷ []) more) ∙ so.splits (10 ∷ more) ∙ ap (λ l. so.done ++ l) (lines_of-feed (bytes old) more so.line_is)
          ∙ sym (append_assoc so.done (bytes old ∷ []) (lines_of more)) ∙ ap (λ l. (so.done ++ bytes old ∷ []) ++ lines_of (l ++ more)) (sym ends.empty);
      good = good-more so.done (bytes old) old.commands.items new.commands.items so.good (omega (arith, w, c)) so.short ends.adds;
      count = omega (arith, n, e, c);
      line_is = subst IsLine (sym ends.empty) tt;
      short = omega (arith, none);
      room = λ some. absurd (omega (arith, none, some));
    }

-- any other byte lengthens it
pub byte_taken : (text : List ℕ) (old new : Reader) (b : ℕ) → IsSoFar text old → b ≢ 10 → old.lines < most_lines → length (bytes old) < most_bytes
    → new.commands ≡ old.commands → new.lines ≡ old.lines → bytes new ≡ bytes old ++ b ∷ [] → IsSoFar (text ++ b ∷ []) new
byte_taken text old new b so other few short commands lines line =
    let n = length-append (bytes old) (b ∷ []) in
    let m : length (bytes new) ≡ length (bytes old ++ b ∷ []) = ap length line in
    record {
      done = so.done;
      splits = λ more.
          ap lines_of (append_assoc text (b ∷ []) more) ∙ so.splits (b ∷ more)
          ∙ ap (λ l. so.done ++ lines_of l) (sym (append_assoc (bytes old) (b ∷ []) more) ∙ ap (λ l. l ++ more) (sym line));
      good = subst (λ (l : List Command). AreGood so.done l) (ap (λ v. v.items) (sym commands)) so.good;
      count = lines ∙ so.count;
      line_is = subst IsLine (sym line) (IsLine-more (bytes old) b so.line_is other);
      short = omega (arith, n, m, short);
      room = λ some. omega (arith, lines, few);
    }

-- a bad line stays bad, however it goes on
bad_on : (number : ℕ) (line rest : List ℕ) → (most_lines < number) ⊎ (most_bytes < length line) → IsBad number (line ++ rest)
bad_on number line rest (inl past) = inl past
bad_on number line rest (inr long) = let n = length-append line rest in inr (inl (omega (arith, n, long)))

pub byte_bad : (text : List ℕ) (old : Reader) (b number : ℕ) → IsSoFar text old → b ≢ 10 → (most_lines ≤ old.lines) ⊎ (most_bytes ≤ length (bytes old))
    → number ≡ old.lines + 1 → (more : List ℕ) → IsFirstBad ((text ++ b ∷ []) ++ more) number
byte_bad text old b number so other past is more =
    let n = length-append (bytes old) (b ∷ []) in
    let line = IsLine-more (bytes old) b so.line_is other in
    let first = first_line (bytes old ++ b ∷ []) more line (omega (arith, n)) in
    let c : old.lines ≡ length so.done = so.count in
    let which : (most_lines < number) ⊎ (most_bytes < length (bytes old ++ b ∷ [])) = elim past [
      | inl many ↦ inl (omega (arith, many, is))
      | inr long ↦ inr (omega (arith, long, n))
    ] in
    record {
      before = so.done;
      line = (bytes old ++ b ∷ []) ++ first.rest;
      after = first.after;
      commands = old.commands.items;
      lines = ap lines_of (append_assoc text (b ∷ []) more) ∙ so.splits (b ∷ more)
          ∙ ap (λ l. so.done ++ l) (ap lines_of (sym (append_assoc (bytes old) (b ∷ []) more)) ∙ first.lines);
      good = so.good;
      number_is = is ∙ ap (λ k. k + 1) c;
      bad = bad_on number (bytes old ++ b ∷ []) first.rest which;
    }

bad_line : (whole : List ℕ) (old : Reader) (done after : List (List ℕ)) (number : ℕ) → lines_of whole ≡ done ++ bytes old ∷ after → AreGood done old.commands.items
    → old.lines ≡ length done → (number ≡ old.lines + 1) × IsBad number (bytes old) → IsFirstBad whole number
bad_line whole old done after number lines good count bad = record {
  before = done;
  line = bytes old;
  after = after;
  commands = old.commands.items;
  lines = lines;
  good = good;
  number_is = bad.0 ∙ ap (λ k. k + 1) count;
  bad = bad.1;
}

pub feed_bad : (text : List ℕ) (old new : Reader) (fault : ScriptFault) → IsSoFar text old → IsLineFault old fault → IsReadThrough (text ++ 10 ∷ []) new (Err fault)
feed_bad text old new (BadCommand number) so bad = λ more.
    bad_line ((text ++ 10 ∷ []) ++ more) old so.done (lines_of more) number
    (ap lines_of (append_assoc text (10 ∷ []) more) ∙ so.splits (10 ∷ more) ∙ ap (λ l. so.done ++ l) (lines_of-feed (bytes old) more so.line_is)) so.good so.count bad
feed_bad text old new Memory so bad = tt

-- ---- the end of the text

at_end : (text : List ℕ) (old : Reader) (so : IsSoFar text old) → lines_of text ≡ so.done ++ lines_of (bytes old)
at_end text old so = ap lines_of (sym (append-nil text)) ∙ so.splits [] ∙ ap (λ l. so.done ++ lines_of l) (append-nil (bytes old))

pub finish_empty : (text : List ℕ) (old : Reader) → IsSoFar text old → bytes old ≡ [] → IsRead text (Ok old.commands.items)
finish_empty text old so none =
    let is : lines_of text ≡ so.done = at_end text old so ∙ ap (λ l. so.done ++ lines_of l) none ∙ append-nil so.done in
    subst (λ (l : List (List ℕ)). AreGood l old.commands.items) (sym is) so.good

pub finish_ended : (text : List ℕ) (old new : Reader) → IsSoFar text old → 0 < length (bytes old) → Ends old new → IsRead text (Ok new.commands.items)
finish_ended text old new so some ends =
    let w : old.lines < most_lines = ends.within in
    let c : old.lines ≡ length so.done = so.count in
    let is : lines_of text ≡ so.done ++ bytes old ∷ [] = at_end text old so ∙ ap (λ l. so.done ++ l) (lines_of-end (bytes old) so.line_is some) in
    let good = good-more so.done (bytes old) old.commands.items new.commands.items so.good (omega (arith, w, c)) so.short ends.adds in
    subst (λ (l : List (List ℕ)). AreGood l new.commands.items) (sym is) good

pub finish_bad : (text : List ℕ) (old : Reader) (fault : ScriptFault) → IsSoFar text old → 0 < length (bytes old) → IsLineFault old fault → IsRead text (Err fault)
finish_bad text old (BadCommand number) so some bad =
    bad_line text old so.done [] number (at_end text old so ∙ ap (λ l. so.done ++ l) (lines_of-end (bytes old) so.line_is some)) so.good so.count bad
finish_bad text old Memory so some bad = tt

-- ---- the beginning

pub begun : (reader : Reader) → reader.commands.items ≡ [] → reader.lines ≡ 0 → bytes reader ≡ [] → IsSoFar [] reader
begun reader none zero_lines empty =
    let n : length (bytes reader) ≡ 0 = ap length empty in
    record {
      done = [];
      splits = λ more. ap (λ l. lines_of (l ++ more)) (sym empty);
      good = record { few = omega arith; short = tt; say = none };
      count = zero_lines;
      line_is = subst IsLine (sym empty) tt;
      short = omega (arith, n);
      room = λ some. absurd (omega (arith, n, some));
    }

-- ---- results

fed : (text : List ℕ) (old new : Reader) (r : Result (Unit {0}) ScriptFault) → IsSoFar text old → OnOk r (Ends old new) → IfErr r (IsLineFault old) → IsReadThrough (text ++ 10 ∷ []) new r
fed text old new (Ok u) so ends fine = feed_taken text old new so ends
fed text old new (Err fault) so fine bad = feed_bad text old new fault so bad

pub feed_result : (text : List ℕ) (old new : Reader) (b : ℕ) (r : Result (Unit {0}) ScriptFault) → b ≡ 10 → IsSoFar text old → OnOk r (Ends old new) → IfErr r (IsLineFault old)
    → IsReadThrough (text ++ b ∷ []) new r
feed_result text old new b r is so ok refused = subst (λ x. IsReadThrough (text ++ x ∷ []) new r) (sym is) (fed text old new r so ok refused)

-- a line that has come to its end leaves room for less
pub ends_room : (old new : Reader) (r : Result (Unit {0}) ScriptFault) → OnOk r (Ends old new) → OnOk r (room_of new + 1 ≤ room_of old)
ends_room old new (Err fault) h = tt
ends_room old new (Ok u) h =
    let w = h.within in
    let e = h.count in
    let none : length (bytes new) ≡ 0 = ap length h.empty in
    omega (arith, w, e, none)

-- ---- an input

pub few_lines : (text : List ℕ) (reader : Reader) → IsSoFar text reader → reader.lines ≤ most_lines
few_lines text reader so =
    let few = so.good.few in
    let count = so.count in
    omega (arith, few, count)

-- what was taken up to here may still be a script
pub undecided : (text : List ℕ) (reader : Reader) → IsSoFar text reader → IsUndecided text
undecided text reader so =
    let count : reader.lines ≡ length so.done = so.count in
    record {
      whole = so.done;
      part = bytes reader;
      lines = so.splits (10 ∷ []) ∙ ap (λ l. so.done ++ l) (lines_of-feed (bytes reader) [] so.line_is);
      commands = reader.commands.items;
      good = so.good;
      short = so.short;
      room = λ some. let few = so.room some in omega (arith, few, count);
    }

pub taken_refused : (text : List ℕ) (reader : Reader) (fault : ScriptFault) → IsReadThrough text reader (Err fault) → IsRefused text fault
taken_refused text reader Memory bad = tt
taken_refused text reader (BadCommand number) bad = bad

pub refuses_taken : (old new : Reader) (piece : List ℕ) (r : Result (Unit {0}) ScriptFault) → ((text : List ℕ) → IsSoFar text old → IsReadThrough (text ++ piece) new r)
    → IfErr r (λ fault. (text : List ℕ) → IsSoFar text old → IsRefused (text ++ piece) fault)
refuses_taken old new piece (Ok u) took = tt
refuses_taken old new piece (Err fault) took = λ text so. taken_refused (text ++ piece) new fault (took text so)

-- a bad line stays bad, whatever follows it
pub refused_input : (left left' : Option (List ℕ)) (fault : InputFault ScriptFault)
    → ((f : ScriptFault) → fault ≡ Text f → HasRead left left' (λ text. IsRefused text f)) → IsInputRead left (Err fault)
refused_input left left' Read bad = tt
refused_input left left' (Text Memory) bad = tt
refused_input left left' (Text (BadCommand number)) bad =
    let so = bad (BadCommand number) refl in
    let whole = whole_of left left' so.bytes so.read in
    record { text = so.bytes ++ whole.0; text_is = whole.1; bad = so.says whole.0 }

pub whole_script : (left left' : Option (List ℕ)) (reader : Reader) (commands : List Command) → HasRead left left' (λ text. IsSoFar text reader)
    → IsAtEnd left' → ((text : List ℕ) → IsSoFar text reader → IsRead text (Ok commands)) → IsInputRead left (Ok commands)
whole_script left left' reader commands so end reads =
    record { text = so.bytes; text_is = at_its_end left left' so.bytes so.read end; good = reads so.bytes so.says }

pub whole_bad : (left left' : Option (List ℕ)) (reader : Reader) (fault : ScriptFault) → HasRead left left' (λ text. IsSoFar text reader)
    → IsAtEnd left' → ((text : List ℕ) → IsSoFar text reader → IsRead text (Err fault)) → IsInputRead left (Err (Text fault))
whole_bad left left' reader Memory so end reads = tt
whole_bad left left' reader (BadCommand number) so end reads =
    record { text = so.bytes; text_is = at_its_end left left' so.bytes so.read end; bad = reads so.bytes so.says }

-- ---- faults

pub byte_refused : (text : List ℕ) (old new : Reader) (b : ℕ) (f : ScriptFault) → f ≡ BadCommand (old.lines + 1) → IsSoFar text old → b ≢ 10
    → (most_lines ≤ old.lines) ⊎ (most_bytes ≤ length (bytes old)) → IsReadThrough (text ++ b ∷ []) new (Err f)
byte_refused text old new b f is so other past =
    subst (λ x. IsReadThrough (text ++ b ∷ []) new (Err x)) (sym is) (byte_bad text old b (old.lines + 1) so other past refl)

-- what was bad stays so, however the piece goes on
pub bad_stays : (text piece : List ℕ) (i b : ℕ) (new last : Reader) (fault : ScriptFault) → i < length piece → b ≡ get_or piece i 0
    → IsReadThrough ((text ++ take i piece) ++ b ∷ []) new (Err fault) → IsReadThrough (text ++ piece) last (Err fault)
bad_stays text piece i b new last Memory within is bad = tt
bad_stays text piece i b new last (BadCommand number) within is bad = λ more.
    let front = take (i + 1) piece in
    let rest = drop (i + 1) piece in
    let so : (text ++ take i piece) ++ b ∷ [] ≡ text ++ front =
    append_assoc text (take i piece) (b ∷ []) ∙ ap (λ l. text ++ l) (ap (λ x. take i piece ++ x ∷ []) is ∙ sym (take_more piece i 0 within)) in
    let whole : ((text ++ take i piece) ++ b ∷ []) ++ (rest ++ more) ≡ (text ++ piece) ++ more =
    ap (λ l. l ++ (rest ++ more)) so ∙ append_assoc text front (rest ++ more) ∙ ap (λ l. text ++ l) (sym (append_assoc front rest more))
    ∙ ap (λ l. text ++ (l ++ more)) (take-append-drop (i + 1) piece) ∙ sym (append_assoc text piece more) in
    subst (λ l. IsFirstBad l number) whole (bad (rest ++ more))

pub taken_read : (text : List ℕ) (new : Reader) (fault : ScriptFault) → IsReadThrough text new (Err fault) → IsRead text (Err fault)
taken_read text new Memory bad = tt
taken_read text new (BadCommand number) bad = subst (λ l. IsFirstBad l number) (append-nil text) (bad [])
