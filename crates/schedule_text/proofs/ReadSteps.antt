-- A schedule as far as its text was read.
use Rattle.std.proofs.Common.{◌≡◌, ℕ, ◌+◌, ◌-◌, ◌<◌, inl, inr, List, [], ◌∷◌, ◌++◌, length, take, refl, sym, ap, ◌∙◌, subst, arith}
use Rattle.std.proofs.lemmas.List.{append_assoc, append-nil, length-append, take_at}
use Rattle.schedule_text.specs.declared.reading.Reader.{Reader}
use Rattle.schedule_text.specs.Schedules.{IsSchedule, Lines}
use Rattle.schedule_text.specs.Grammar.{AreRows, IsBadLine, IsText, most_rows, rows_of}
use Rattle.schedule_text.specs.Readings.{Fits, IsKept, IsRefused, IsSoFar, TakesLine, lines_in}
use Rattle.schedule_text.proofs.Growing.{all_front, fits_there, no_restart, said_next, silent_next}
use Rattle.schedule_text.proofs.LastRow.{last_row}
use Rattle.schedule_text.proofs.OneSchedule.{rows_same}

abbrev Rows : Type 0
Rows = List (List ℕ)

abbrev nothing : Lines
nothing = record { files = []; sessions = []; events = [] }

no_rows : AreRows [] nothing
no_rows = record {
  files = [];
  sessions = [];
  events = [];
  parts = refl;
  file_rows = tt;
  session_rows = tt;
  event_rows = tt;
  few = omega arith;
  short = tt;
  form = record {
    files_differ = refl;
    nonces_differ = refl;
    names = tt;
    contents = tt;
    nonces = tt;
    few_sessions = omega arith;
    few_lines = omega arith;
    tokens = tt;
    each = tt;
    restarts = no_restart [];
  };
}

pub begun : (text : List ℕ) (reader : Reader) → (reader.files.items ≡ []) × (reader.sessions.items ≡ []) × (reader.events.items ≡ [])
    → IsKept reader → reader.rows ≡ 0 → IsSoFar text text reader
begun text reader none kept rows =
    let is : nothing ≡ lines_in reader = λ i. record { files = sym none.0 i; sessions = sym none.1 i; events = sym none.2 i } in
    record {
      done = [];
      splits = refl;
      good = subst (AreRows []) is no_rows;
      count = rows;
      kept = kept;
    }

-- a good line more
behind_row : (text : List ℕ) (done rest after : Rows) (row : List ℕ) → rows_of text ≡ done ++ rest → rest ≡ row ∷ after → rows_of text ≡ (done ++ row ∷ []) ++ after
behind_row text done rest after row splits is = splits ∙ ap (λ (l : Rows). done ++ l) is ∙ sym (append_assoc done (row ∷ []) after)

pub taken : (text rest behind row : List ℕ) (old new : Reader) → IsSoFar text rest old → rows_of rest ≡ row ∷ rows_of behind → TakesLine row old new → IsSoFar text behind new
taken text rest behind row old new so is step =
    let within : old.rows < most_rows = step.within in
    let count : old.rows ≡ length so.done = so.count in
    let n = length-append so.done (row ∷ []) in
    let more : new.rows ≡ old.rows + 1 = step.rows in
    let few : length so.done < most_rows = omega (arith, within, count) in
    elim step.lines [
      | inl silent ↦ record {
        done = so.done ++ row ∷ [];
        splits = behind_row text so.done (rows_of rest) (rows_of behind) row so.splits is;
        good = subst (AreRows (so.done ++ row ∷ [])) (sym silent.1) (silent_next so.done row (lines_in old) so.good few step.short silent.0);
        count = omega (arith, n, more, count);
        kept = step.kept;
      }
      | inr said ↦ record {
        done = so.done ++ row ∷ [];
        splits = behind_row text so.done (rows_of rest) (rows_of behind) row so.splits is;
        good = subst (AreRows (so.done ++ row ∷ [])) (sym said.4) (said_next so.done row (lines_in old) said.1 so.good few step.short said.0 said.2 said.3);
        count = omega (arith, n, more, count);
        kept = step.kept;
      }
    ]

-- the next line is the first bad one
no_schedule : (text rest row : List ℕ) (old : Reader) (so : IsSoFar text rest old) → IsRefused row old → (lines : Lines) → AreRows (so.done ++ row ∷ []) lines → ⊥
no_schedule text rest row old so (inl many) lines are =
    let n = length-append so.done (row ∷ []) in
    let few = are.few in
    let count = so.count in
    omega (arith, n, few, many, count)
no_schedule text rest row old so (inr (inl long)) lines are =
    let short = (all_front _ so.done row are.short).1 in
    omega (arith, short, long)
no_schedule text rest row old so (inr (inr unfit)) lines are =
    let last = last_row so.done row lines are unfit.0 in
    let same = rows_same (length so.done) so.done refl last.old (lines_in old) last.rows_are so.good in
    let form = subst IsSchedule last.with_it are.form in
    let fits = fits_there last.old last.one last.order form in
    unfit.1 last.one last.tells (subst (λ (lines : Lines). Fits lines last.one) same fits)

pub refused : (text rest row : List ℕ) (after : Rows) (old : Reader) → IsSoFar text rest old → rows_of rest ≡ row ∷ after → IsRefused row old
    → IsBadLine text (old.rows + 1)
refused text rest row after old so is bad =
    let count : old.rows ≡ length so.done = so.count in
    let whole = behind_row text so.done (rows_of rest) after row so.splits is in
    let first = so.splits ∙ ap (λ (l : Rows). so.done ++ l) is in
    let n = length-append so.done (row ∷ after) in
    let m = length-append so.done (row ∷ []) in
    let total : length (rows_of text) ≡ length (so.done ++ row ∷ after) = ap length first in
    let at : old.rows + 1 - 1 ≡ length so.done = omega (arith, count) in
    let to : old.rows + 1 ≡ length (so.done ++ row ∷ []) = omega (arith, count, m) in
    let before : take (old.rows + 1 - 1) (rows_of text) ≡ so.done = ap (take (old.rows + 1 - 1)) first ∙ take_at so.done (row ∷ after) (old.rows + 1 - 1) (sym at) in
    let with_it : take (old.rows + 1) (rows_of text) ≡ so.done ++ row ∷ [] = ap (take (old.rows + 1)) whole ∙ take_at (so.done ++ row ∷ []) after (old.rows + 1) (sym to) in
    record {
      there = (omega arith, omega (arith, total, n, count));
      good = (lines_in old, subst (λ (rows : Rows). AreRows rows (lines_in old)) (sym before) so.good);
      bad = λ lines are. no_schedule text rest row old so bad lines (subst (λ (rows : Rows). AreRows rows lines) with_it are);
    }

-- the text is at its end
pub ended : (text rest : List ℕ) (reader : Reader) → IsSoFar text rest reader → rows_of rest ≡ [] → IsText text (lines_in reader)
ended text rest reader so none =
    subst (λ (rows : Rows). AreRows rows (lines_in reader)) (sym (so.splits ∙ ap (λ (l : Rows). so.done ++ l) none ∙ append-nil so.done)) so.good
