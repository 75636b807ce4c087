-- A schedule whose text comes in pieces.
use Rattle.std.proofs.Common.{◌≡◌, ◌⊎◌, ℕ, false, List, [], ◌∷◌, ◌++◌, length, ◌+◌, ◌≤◌, ◌<◌, inl, inr, refl, sym, ap, ◌∙◌, subst, arith, append_assoc, append-nil}
use Rattle.std.specs.Prelude.{Result, Ok, Err, OnOk, IfOk, IfErr}
use Rattle.std.proofs.lemmas.List.{length-append}
use Rattle.std.proofs.lemmas.List.Elements.{All-append}
use Rattle.schedule_text.specs.declared.reading.Reader.{Reader}
use Rattle.schedule_text.specs.declared.reading.ScheduleFault.{ScheduleFault}
use Rattle.schedule_text.specs.declared.reading.ScheduleFault.TheVariants.{BadLine, Memory}
use Rattle.schedule_text.specs.declared.pieces.PieceReader.{PieceReader}
use Rattle.schedule_text.specs.Schedules.{IsSchedule, Lines}
use Rattle.schedule_text.specs.Grammar.{IsBadLine, IsText, most_bytes, most_rows, rows_of}
use Rattle.schedule_text.specs.Inputs.{IsUndecided}
use Rattle.schedule_text.specs.Readings.{IsKept, IsRefused, IsSoFar, TakesLine, lines_in}
use Rattle.schedule_text.specs.Pieces.{HasCome, IsFault, IsOver, IsRead, MayTakeLine, IsRowFault, IsTakenIn, Lengthens, room_of}
use Rattle.line_text.specs.Words.{IsRow}
use Rattle.line_text.proofs.Endings.{is_feed}
use Rattle.schedule_text.proofs.Endings.{begins, fed, lone}
use Rattle.schedule_text.proofs.ReadSteps.{begun, ended, refused, taken}

-- ---- the reader's steps

abbrev row_in : PieceReader → List ℕ
row_in pieces = pieces.row.items

pub come_begun : (pieces : PieceReader) → (pieces.reader.files.items ≡ []) × (pieces.reader.sessions.items ≡ []) × (pieces.reader.events.items ≡ [])
    → IsKept pieces.reader → pieces.reader.rows ≡ 0 → row_in pieces ≡ [] → HasCome [] [] pieces
come_begun pieces none kept rows empty = record {
  lines = λ more. subst (λ (l : List ℕ). IsSoFar more (l ++ more) pieces.reader) (sym empty) (begun more pieces.reader none kept rows);
  row_is = subst IsRow (sym empty) (λ i d below. absurd (omega (arith, below)));
  short = let none : length (row_in pieces) ≡ 0 = ap length empty in omega (arith, none);
  room = λ some. let none : length (row_in pieces) ≡ 0 = ap length empty in absurd (omega (arith, none, some));
}

-- what has come is a text so far
so_far : (text : List ℕ) (pieces : PieceReader) → HasCome text [] pieces → IsSoFar text (row_in pieces) pieces.reader
so_far text pieces come =
    subst (λ (l : List ℕ). IsSoFar text l pieces.reader) (append-nil (row_in pieces))
    (subst (λ (l : List ℕ). IsSoFar l (row_in pieces ++ []) pieces.reader) (append-nil text) (come.lines []))

form_of : (text rest : List ℕ) (reader : Reader) → IsSoFar text rest reader → IsSchedule (lines_in reader)
form_of text rest reader so = so.good.form

pub come_form : (text : List ℕ) (pieces : PieceReader) → HasCome text [] pieces → IsSchedule (lines_in pieces.reader)
come_form text pieces come = form_of text (row_in pieces) pieces.reader (so_far text pieces come)

ready_so_far : (text rest : List ℕ) (reader : Reader) → IsSoFar text rest reader → MayTakeLine reader
ready_so_far text rest reader so =
    let few = so.good.few in
    let count = so.count in
    record { few = omega (arith, few, count); kept = so.kept }

pub come_ready : (text : List ℕ) (pieces : PieceReader) → HasCome text [] pieces → MayTakeLine pieces.reader
come_ready text pieces come = ready_so_far text (row_in pieces) pieces.reader (so_far text pieces come)

pub taken_ready : (row : List ℕ) (old new : Reader) → TakesLine row old new → MayTakeLine new
taken_ready row old new is = let within = is.within in let rows = is.rows in record { few = omega (arith, within, rows); kept = is.kept }

-- a piece more has come, and nothing of it was taken
pub piece_ahead : (text piece : List ℕ) (pieces : PieceReader) → HasCome text [] pieces → HasCome (text ++ piece) piece pieces
piece_ahead text piece pieces come = record {
  lines = λ more. subst (λ (l : List ℕ). IsSoFar l (row_in pieces ++ (piece ++ more)) pieces.reader) (sym (append_assoc text piece more)) (come.lines (piece ++ more));
  row_is = come.row_is;
  short = come.short;
  room = come.room;
}

longer_short : (row part line : List ℕ) (most : ℕ) → length row ≤ most → line ≡ row ++ part → (0 < length part → length line ≤ most) → length line ≤ most
longer_short row [] line most short is fits = let n = ap length is in let m = length-append row [] in omega (arith, n, m, short)
longer_short row (byte ∷ part) line most short is fits = fits (omega arith)

longer_room : (row part line : List ℕ) (most rows rows' : ℕ) → (0 < length row → rows < most) → line ≡ row ++ part → rows' ≡ rows
    → (0 < length part → rows < most) → 0 < length line → rows' < most
longer_room row [] line most rows rows' room is same fits some =
    let n = ap length is in
    let m = length-append row [] in
    let few = room (omega (arith, n, m, some)) in
    omega (arith, few, same)
longer_room row (byte ∷ part) line most rows rows' room is same fits some = let few = fits (omega arith) in omega (arith, few, same)

-- the next line is longer
pub come_longer : (text part behind : List ℕ) (old new : PieceReader) → IsRow part → HasCome text (part ++ behind) old → Lengthens part old new → HasCome text behind new
come_longer text part behind old new lacks come more = record {
  lines = λ end.
      let same : row_in old ++ ((part ++ behind) ++ end) ≡ row_in new ++ (behind ++ end) =
      ap (λ (l : List ℕ). row_in old ++ l) (append_assoc part behind end) ∙ sym (append_assoc (row_in old) part (behind ++ end))
      ∙ ap (λ (l : List ℕ). l ++ (behind ++ end)) (sym more.row) in
      subst (λ (r : Reader). IsSoFar (text ++ end) (row_in new ++ (behind ++ end)) r) (sym more.reader)
      (subst (λ (l : List ℕ). IsSoFar (text ++ end) l old.reader) same (come.lines end));
  row_is = subst IsRow (sym more.row) (All-append (λ byte. is_feed byte ≡ false) (row_in old) part come.row_is lacks);
  short = longer_short (row_in old) part (row_in new) most_bytes come.short more.row (λ some. (more.fits some).1);
  room = λ some. longer_room (row_in old) part (row_in new) most_rows old.reader.rows new.reader.rows come.room more.row (ap (λ (r : Reader). r.rows) more.reader) (λ few. (more.fits few).0) some;
}

pub come_longest : (text part : List ℕ) (old new : PieceReader) → IsRow part → HasCome text part old → Lengthens part old new → HasCome text [] new
come_longest text part old new lacks come more =
    come_longer text part [] old new lacks (subst (λ (l : List ℕ). HasCome text l old) (sym (append-nil part)) come) more

-- it ends, and is a good one
pub come_taken : (text behind : List ℕ) (old new : PieceReader) → HasCome text (10 ∷ behind) old → TakesLine (row_in old) old.reader new.reader → row_in new ≡ []
    → HasCome text behind new
come_taken text behind old new come step empty = record {
  lines = λ more.
      subst (λ (l : List ℕ). IsSoFar (text ++ more) (l ++ (behind ++ more)) new.reader) (sym empty)
      (taken (text ++ more) (row_in old ++ 10 ∷ (behind ++ more)) (behind ++ more) (row_in old) old.reader new.reader (come.lines more)
      (fed (row_in old) (behind ++ more) come.row_is) step);
  row_is = subst IsRow (sym empty) (λ i d below. absurd (omega (arith, below)));
  short = let none : length (row_in new) ≡ 0 = ap length empty in omega (arith, none);
  room = λ some. let none : length (row_in new) ≡ 0 = ap length empty in absurd (omega (arith, none, some));
}

-- or a bad one
pub come_refused : (text behind : List ℕ) (old : PieceReader) (fault : ScheduleFault) → HasCome text (10 ∷ behind) old → IsRowFault old fault → IsFault text fault
come_refused text behind old Memory come bad = tt
come_refused text behind old (BadLine number) come (is, bad) = λ more.
    subst (λ n. IsBadLine (text ++ more) n) (sym is)
    (refused (text ++ more) (row_in old ++ 10 ∷ (behind ++ more)) (row_in old) (rows_of (behind ++ more)) old.reader (come.lines more)
    (fed (row_in old) (behind ++ more) come.row_is) bad)

refused_over : (row rest : List ℕ) (reader : Reader) → (most_rows ≤ reader.rows) ⊎ (most_bytes < length row) → IsRefused (row ++ rest) reader
refused_over row rest reader (inl many) = inl many
refused_over row rest reader (inr long) = let n = length-append row rest in inr (inl (omega (arith, n, long)))

-- it is past a limit before it ends
pub come_over : (text part behind : List ℕ) (old : PieceReader) (fault : ScheduleFault) → IsRow part → HasCome text (part ++ behind) old → IsOver part old fault
    → IsFault text fault
come_over text part behind old Memory lacks come over = tt
come_over text part behind old (BadLine number) lacks come (is, some, past) = λ more.
    let line : List ℕ = row_in old ++ part in
    let n = length-append (row_in old) part in
    let none : IsRow line = All-append (λ byte. is_feed byte ≡ false) (row_in old) part come.row_is lacks in
    let first = begins line (behind ++ more) none (omega (arith, n, some)) in
    let same : row_in old ++ ((part ++ behind) ++ more) ≡ line ++ (behind ++ more) =
    ap (λ (l : List ℕ). row_in old ++ l) (append_assoc part behind more) ∙ sym (append_assoc (row_in old) part (behind ++ more)) in
    subst (λ k. IsBadLine (text ++ more) k) (sym is)
    (refused (text ++ more) (line ++ (behind ++ more)) (line ++ first.rest) first.after old.reader
    (subst (λ (l : List ℕ). IsSoFar (text ++ more) l old.reader) same (come.lines more)) first.rows (refused_over line first.rest old.reader past))

pub last_over : (text part : List ℕ) (old : PieceReader) (fault : ScheduleFault) → IsRow part → HasCome text part old → IsOver part old fault → IsFault text fault
last_over text part old fault lacks come over =
    come_over text part [] old fault lacks (subst (λ (l : List ℕ). HasCome text l old) (sym (append-nil part)) come) over

-- ---- results

pub row_taken : (part : List ℕ) (old mid new : PieceReader) (r : Result (Unit {0}) ScheduleFault) → IsRow part → Lengthens part old mid
    → OnOk r (TakesLine (row_in mid) mid.reader new.reader × (row_in new ≡ []))
    → OnOk r ((text behind : List ℕ) → HasCome text (part ++ 10 ∷ behind) old → HasCome text behind new)
row_taken part old mid new (Err fault) lacks more step = tt
row_taken part old mid new (Ok u) lacks more step = λ text behind come.
    come_taken text behind mid new (come_longer text part (10 ∷ behind) old mid lacks come more) step.0 step.1

pub row_refused : (part : List ℕ) (old mid : PieceReader) (r : Result (Unit {0}) ScheduleFault) → IsRow part → Lengthens part old mid → IfErr r (IsRowFault mid)
    → IfErr r (λ fault. (text behind : List ℕ) → HasCome text (part ++ 10 ∷ behind) old → IsFault text fault)
row_refused part old mid (Ok u) lacks more bad = tt
row_refused part old mid (Err fault) lacks more bad = λ text behind come.
    come_refused text behind mid fault (come_longer text part (10 ∷ behind) old mid lacks come more) bad

pub rest_taken : (text part : List ℕ) (old new : PieceReader) (r : Result (Unit {0}) ScheduleFault) → IsRow part → HasCome text part old
    → OnOk r (Lengthens part old new) → IfErr r (IsOver part old) → IsTakenIn text new r
rest_taken text part old new (Ok u) lacks come more over = come_longest text part old new lacks come more
rest_taken text part old new (Err fault) lacks come more over = last_over text part old fault lacks come over

pub rest_ready : (part : List ℕ) (old new : PieceReader) (r : Result (Unit {0}) ScheduleFault) → MayTakeLine old.reader → OnOk r (Lengthens part old new)
    → OnOk r (MayTakeLine new.reader)
rest_ready part old new (Err fault) ready more = tt
rest_ready part old new (Ok u) ready more = subst MayTakeLine (sym more.reader) ready

pub one_room : (old mid new : PieceReader) (whole part behind rest : List ℕ) → rest ≡ part ++ 10 ∷ behind → room_of new + length part + 1 ≤ room_of mid
    → room_of mid + length whole ≤ room_of old + length rest → room_of new + length whole ≤ room_of old + length behind
one_room old mid new whole part behind rest is smaller before =
    let n = length-append part (10 ∷ behind) in
    let m : length rest ≡ length (part ++ 10 ∷ behind) = ap length is in
    omega (arith, n, m, smaller, before)

-- ---- the end of the text

no_bytes : (l : List ℕ) → length l ≡ 0 → l ≡ []
no_bytes [] h = refl
no_bytes (byte ∷ l) h = absurd (omega (arith, h))

pub finish_empty : (text : List ℕ) (pieces : PieceReader) → HasCome text [] pieces → length (row_in pieces) ≡ 0 → IsText text (lines_in pieces.reader)
finish_empty text pieces come none =
    ended text [] pieces.reader (subst (λ (l : List ℕ). IsSoFar text l pieces.reader) (no_bytes (row_in pieces) none) (so_far text pieces come)) refl

last_taken : (text : List ℕ) (old new : PieceReader) → HasCome text [] old → 0 < length (row_in old) → TakesLine (row_in old) old.reader new.reader
    → IsSoFar text [] new.reader
last_taken text old new come some step =
    taken text (row_in old) [] (row_in old) old.reader new.reader (so_far text old come) (lone (row_in old) come.row_is some) step

pub finish_form : (text : List ℕ) (old new : PieceReader) → HasCome text [] old → 0 < length (row_in old) → TakesLine (row_in old) old.reader new.reader
    → IsSchedule (lines_in new.reader)
finish_form text old new come some step = form_of text [] new.reader (last_taken text old new come some step)

pub finish_ended : (text : List ℕ) (old new : PieceReader) → HasCome text [] old → 0 < length (row_in old) → TakesLine (row_in old) old.reader new.reader
    → IsText text (lines_in new.reader)
finish_ended text old new come some step = ended text [] new.reader (last_taken text old new come some step) refl

pub finish_bad : (text : List ℕ) (old : PieceReader) (fault : ScheduleFault) → HasCome text [] old → 0 < length (row_in old) → IsRowFault old fault
    → IsRead text (Err fault)
finish_bad text old Memory come some bad = tt
finish_bad text old (BadLine number) come some (is, bad) =
    subst (λ n. IsBadLine text n) (sym is)
    (refused text (row_in old) (row_in old) (rows_of []) old.reader (so_far text old come) (lone (row_in old) come.row_is some) bad)

-- ---- a whole text

pub read_fault : (text : List ℕ) (fault : ScheduleFault) → IsFault text fault → IsRead text (Err fault)
read_fault text Memory bad = tt
read_fault text (BadLine number) bad = subst (λ (l : List ℕ). IsBadLine l number) (append-nil text) (bad [])

pub read_good : (text : List ℕ) (r : Result Lines ScheduleFault) → IsRead text r → IfOk r (λ lines. IsText text lines)
read_good text (Ok lines) read = read
read_good text (Err fault) read = tt

pub read_bad : (text : List ℕ) (r : Result Lines ScheduleFault) → IsRead text r → (number : ℕ) → r ≡ Err (BadLine number) → IsBadLine text number
read_bad text r read number is = subst (λ (x : Result Lines ScheduleFault). IsRead text x) is read

-- what has come may still be a schedule
pub undecided : (text : List ℕ) (pieces : PieceReader) → HasCome text [] pieces → IsUndecided text
undecided text pieces come =
    let so = come.lines (10 ∷ []) in
    let count : pieces.reader.rows ≡ length so.done = so.count in
    record {
      whole = so.done;
      part = row_in pieces;
      rows = so.splits ∙ ap (λ (l : List (List ℕ)). so.done ++ l) (fed (row_in pieces) [] come.row_is);
      lines = lines_in pieces.reader;
      good = so.good;
      short = come.short;
      room = λ some. let few = come.room some in omega (arith, few, count);
    }

pub comes_taken : (old new : PieceReader) (piece : List ℕ) (r : Result (Unit {0}) ScheduleFault) → ((text : List ℕ) → HasCome text [] old → IsTakenIn (text ++ piece) new r)
    → OnOk r ((text : List ℕ) → HasCome text [] old → HasCome (text ++ piece) [] new)
comes_taken old new piece (Ok u) took = took
comes_taken old new piece (Err fault) took = tt

pub refuses_taken : (old new : PieceReader) (piece : List ℕ) (r : Result (Unit {0}) ScheduleFault) → ((text : List ℕ) → HasCome text [] old → IsTakenIn (text ++ piece) new r)
    → IfErr r (λ fault. (text : List ℕ) → HasCome text [] old → IsFault (text ++ piece) fault)
refuses_taken old new piece (Ok u) took = tt
refuses_taken old new piece (Err fault) took = took
