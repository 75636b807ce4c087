-- A journal whose bytes come in pieces.
use Rattle.std.proofs.Common.{◌≡◌, ◌==◌, ℕ, suc, ◌+◌, ◌<◌, false, List, [], ◌∷◌, ◌++◌, length, refl, sym, ap, ◌∙◌, subst, arith, append_assoc, append-nil}
use Rattle.std.specs.Prelude.{Option, Result, Ok, Err, OnOk}
use Rattle.std.specs.Io.KnownBytes.{IsAtEnd}
use Rattle.line_text.specs.Inputs.{HasRead}
use Rattle.journal_text.specs.declared.pieces.LineReader.{LineReader}
use Rattle.journal_text.specs.Inputs.{IsBadInput, IsWhole}
use Rattle.std.proofs.lemmas.List.{length-append}
use Rattle.std.proofs.lemmas.List.Elements.{All-append}
use Rattle.journal_text.specs.declared.text.Format.{Format}
use Rattle.journal_text.specs.declared.text.JournalText.{JournalText}
use Rattle.journal_text.specs.declared.reading.Reader.{Reader}
use Rattle.journal_text.specs.declared.pieces.Stage.{Stage}
use Rattle.journal_text.specs.declared.pieces.Stage.TheVariants as stage
use Rattle.journal_text.specs.declared.pieces.Step.TheVariants as step
use Rattle.journal_text.specs.Lines.{IsOpening}
use Rattle.journal_text.specs.Words.{IsRow, first_words, last_words, words_of}
use Rattle.journal_text.specs.Journals.{IsBadLine}
use Rattle.journal_text.specs.Reader.{AreTimes, IsReader, begun_text}
use Rattle.journal_text.specs.SoFar.{IsRead, IsSoFar, Steps}
use Rattle.journal_text.specs.Coming.{AreAll, AreLines, HasCome, IsAt, IsFirst, IsKeptOf, IsTaken, Reaches}
use Rattle.journal_text.proofs.Fronts.{Row}
use Rattle.journal_text.proofs.Growing.{further, so_begun}
use Rattle.journal_text.proofs.Outcomes.{all_read, bad_row, more_behind, no_first, no_row_first, no_row_left}

pub on_ok : {T E : Type 0} (r : Result T E) (P Q : Type 0) → (P → Q) → OnOk r P → OnOk r Q
on_ok (Ok t) P Q f h = f h
on_ok (Err e) P Q f h = tt

pub no_row : IsRow []
no_row = λ i d below. absurd (omega (arith, below))

longer_row : (row part : List ℕ) → IsRow row → IsRow part → IsRow (row ++ part)
longer_row row part h k = All-append (λ byte. (byte == 10) ≡ false) row part h k

-- ---- the next line gets longer

module _ {R : Type 0} (is_new : R → Type 0) (text ahead row : List ℕ) (number : ℕ) (keeper : R) where
  pub first_longer : (part row' : List ℕ) → IsRow part → row' ≡ row ++ part → IsFirst is_new text (part ++ ahead) row number keeper
      → IsFirst is_new text ahead row' number keeper
  first_longer part row' none is h = record {
    new = h.new;
    row_is = subst IsRow (sym is) (longer_row row part h.row_is none);
    whole = h.whole ∙ sym (append_assoc row part ahead) ∙ ap (λ (l : List ℕ). l ++ ahead) (sym is);
    count = h.count;
  }

module _ {R : Type 0} (keeps : R → JournalText → Type 0) (text ahead row : List ℕ) (number : ℕ) (keeper : R) (reader : Reader) where
  pub lines_longer : (part row' : List ℕ) → IsRow part → row' ≡ row ++ part → AreLines keeps text (part ++ ahead) row number keeper reader
      → AreLines keeps text ahead row' number keeper reader
  lines_longer part row' none is h = record {
    told = h.told;
    kept = h.kept;
    reader_is = h.reader_is;
    row_is = subst IsRow (sym is) (longer_row row part h.row_is none);
    so = λ more.
        let same : row ++ ((part ++ ahead) ++ more) ≡ row' ++ (ahead ++ more) =
        ap (λ (l : List ℕ). row ++ l) (append_assoc part ahead more) ∙ sym (append_assoc row part (ahead ++ more)) ∙ ap (λ (l : List ℕ). l ++ (ahead ++ more)) (sym is) in
        subst (λ (l : List ℕ). IsSoFar (text ++ more) l reader.form h.told number) same (h.so more);
  }

  -- something stands behind the last line
  pub all_longer : (part : List ℕ) → 0 < length part → AreAll keeps text (part ++ ahead) row number keeper reader → (more : List ℕ) → IsBadLine (text ++ more) (number + 1)
  all_longer part some h more =
      let n = length-append (part ++ ahead) more in
      let m = length-append part ahead in
      let count = h.count in
      let line : suc (suc h.before) ≡ number + 1 = omega (arith, count) in
      subst (λ (k : ℕ). IsBadLine (text ++ more) k) line
      (more_behind (text ++ more) (h.last ++ 10 ∷ ((part ++ ahead) ++ more)) h.last ((part ++ ahead) ++ more) reader h.told h.before
      (record { cut = refl; line = h.last_is }) h.reader_is (h.so more) h.said (omega (arith, n, m, some)))

-- a piece more has come, and nothing of it was taken
module _ {R : Type 0} (is_new : R → Type 0) (keeps : R → JournalText → Type 0) (text piece row : List ℕ) (number : ℕ) (keeper : R) where
  pub piece_ahead : (stage : Stage) → IsAt is_new keeps text [] row number keeper stage → IsAt is_new keeps (text ++ piece) piece row number keeper stage
  piece_ahead stage.First h = record {
    new = h.new;
    row_is = h.row_is;
    whole = ap (λ (l : List ℕ). l ++ piece) (h.whole ∙ append-nil row);
    count = h.count;
  }
  piece_ahead (stage.Lines reader) h = record {
    told = h.told;
    kept = h.kept;
    reader_is = h.reader_is;
    row_is = h.row_is;
    so = λ more. subst (λ (l : List ℕ). IsSoFar l (row ++ (piece ++ more)) reader.form h.told number) (sym (append_assoc text piece more)) (h.so (piece ++ more));
  }
  piece_ahead (stage.All reader) h = record {
    told = h.told;
    kept = h.kept;
    reader_is = h.reader_is;
    none = h.none;
    last = h.last;
    last_is = h.last_is;
    said = h.said;
    before = h.before;
    count = h.count;
    so = λ more. subst (λ (l : List ℕ). IsSoFar l (h.last ++ 10 ∷ (piece ++ more)) reader.form h.told h.before) (sym (append_assoc text piece more)) (h.so (piece ++ more));
  }
  piece_ahead (stage.Bad line) h = λ more. subst (λ (l : List ℕ). IsBadLine l line) (sym (append_assoc text piece more)) (h (piece ++ more))

-- ---- it ends

-- a text whose first line has come
first_row : (text behind row more : List ℕ) → IsRow row → text ≡ row ++ 10 ∷ behind → Row (text ++ more) row (behind ++ more)
first_row text behind row more is whole = record { cut = ap (λ (l : List ℕ). l ++ more) whole ∙ append_assoc row (10 ∷ behind) more; line = is }

pub lines_begun : {R : Type 0} (is_new : R → Type 0) (keeps : R → JournalText → Type 0) (text behind row : List ℕ) (keeper keeper' : R) (reader : Reader) (form : Format) (opened first : ℕ)
    → IsFirst is_new text (10 ∷ behind) row 0 keeper → words_of row ≡ first_words form opened first → keeps keeper' (begun_text opened first)
    → reader.form ≡ form → IsReader reader (begun_text opened first) → AreLines keeps text behind [] 1 keeper' reader
lines_begun is_new keeps text behind row keeper keeper' reader form opened first h words kept same reads = record {
  told = begun_text opened first;
  kept = kept;
  reader_is = reads;
  row_is = no_row;
  so = λ more. subst (λ (f : Format). IsSoFar (text ++ more) (behind ++ more) f (begun_text opened first) 1) (sym same)
      (so_begun (text ++ more) row (behind ++ more) form opened first (first_row text behind row more h.row_is h.whole) words);
}

pub not_begun : {R : Type 0} (is_new : R → Type 0) (text behind row : List ℕ) (keeper : R) → IsFirst is_new text (10 ∷ behind) row 0 keeper
    → ((form : Format) (opened first : ℕ) → IsOpening form opened first → words_of row ≡ first_words form opened first → ⊥)
    → (more : List ℕ) → IsBadLine (text ++ more) 1
not_begun is_new text behind row keeper h none more = no_first (text ++ more) row (behind ++ more) (first_row text behind row more h.row_is h.whole) none

module _ {R : Type 0} (keeps : R → JournalText → Type 0) (text behind row : List ℕ) (number : ℕ) (keeper keeper' : R) (old new : Reader)
    (h : AreLines keeps text (10 ∷ behind) row number keeper old) where
  this_row : (more : List ℕ) → Row (row ++ 10 ∷ (behind ++ more)) row (behind ++ more)
  this_row more = record { cut = refl; line = h.row_is }

  one_later : suc number ≡ number + 1
  one_later = omega arith

  pub lines_on : Steps keeps (words_of row) (number + 1) old keeper step.On new keeper' → AreLines keeps text behind [] (number + 1) keeper' new
  lines_on steps =
      let count = (h.so []).count in
      let next = steps h.told h.reader_is.entries (omega (arith, count)) h.kept in
      let more_of = λ (more : List ℕ).
      further (text ++ more) (row ++ 10 ∷ (behind ++ more)) row (behind ++ more) old new h.told next.0 number (this_row more) h.reader_is (h.so more) next.2
      in
      record {
        told = next.0;
        kept = next.1;
        reader_is = (more_of []).reader_is;
        row_is = no_row;
        so = λ more. subst (λ (n : ℕ). IsSoFar (text ++ more) (behind ++ more) new.form next.0 n) one_later (more_of more).so;
      }

  pub lines_all : Steps keeps (words_of row) (number + 1) old keeper step.Last new keeper' → AreAll keeps text behind [] (number + 1) keeper' new
  lines_all steps =
      subst (λ (r : Reader). AreAll keeps text behind [] (number + 1) keeper' r) (sym steps.1)
      (subst (λ (k : R). AreAll keeps text behind [] (number + 1) k old) (sym steps.2)
      (record {
        told = h.told;
        kept = h.kept;
        reader_is = h.reader_is;
        none = refl;
        last = row;
        last_is = h.row_is;
        said = steps.0;
        before = number;
        count = sym one_later;
        so = h.so;
      }))

  pub lines_bad : Steps keeps (words_of row) (number + 1) old keeper step.Bad new keeper' → (more : List ℕ) → IsBadLine (text ++ more) (number + 1)
  lines_bad unfit more =
      subst (λ (n : ℕ). IsBadLine (text ++ more) n) one_later
      (bad_row (text ++ more) (row ++ 10 ∷ (behind ++ more)) row (behind ++ more) old h.told number (this_row more) h.reader_is (h.so more) unfit)

  pub lines_times : AreTimes old.nows
  lines_times = h.reader_is.times.are

-- ---- the text ends

pub ends_first : {R : Type 0} (is_new : R → Type 0) (text row : List ℕ) (number : ℕ) (keeper : R) → IsFirst is_new text [] row number keeper → IsBadLine text 1
ends_first is_new text row number keeper h = no_row_first text (subst IsRow (sym (h.whole ∙ append-nil row)) h.row_is)

module _ {R : Type 0} (keeps : R → JournalText → Type 0) (text row : List ℕ) (number : ℕ) (keeper : R) (reader : Reader) where
  pub ends_early : AreLines keeps text [] row number keeper reader → IsBadLine text (number + 1)
  ends_early h =
      let later : suc number ≡ number + 1 = omega arith in
      let so = subst (λ (l : List ℕ). IsSoFar l row reader.form h.told number) (append-nil text)
      (subst (λ (l : List ℕ). IsSoFar (text ++ []) l reader.form h.told number) (append-nil row) (h.so [])) in
      subst (λ (n : ℕ). IsBadLine text n) later (no_row_left text row reader h.told number h.row_is h.reader_is so)

  pub ends_well : AreAll keeps text [] row number keeper reader → IsRead keeps text reader keeper
  ends_well h =
      let so = subst (λ (l : List ℕ). IsSoFar l (h.last ++ 10 ∷ []) reader.form h.told h.before) (append-nil text) (h.so []) in
      record {
        text = h.told;
        kept = h.kept;
        read = all_read text (h.last ++ 10 ∷ []) h.last [] reader h.told h.before (record { cut = refl; line = h.last_is }) h.reader_is so h.said refl;
      }

pub ends_bad : (text : List ℕ) (line : ℕ) → ((more : List ℕ) → IsBadLine (text ++ more) line) → IsBadLine text line
ends_bad text line h = subst (λ (l : List ℕ). IsBadLine l line) (append-nil text) (h [])

-- ---- a whole input

-- what has come is the whole input
come_whole : {R : Type 0} (is_new : R → Type 0) (keeps : R → JournalText → Type 0) (left left' : Option (List ℕ)) (lines : LineReader R)
    → (so : HasRead left left' (HasCome is_new keeps lines)) → IsAtEnd left' → IsWhole left left' so.bytes
come_whole is_new keeps left left' lines so end = record { consumed = so.read; end = end; short = so.says.few }

module _ {R : Type 0} (is_new : R → Type 0) (keeps : R → JournalText → Type 0) (left left' : Option (List ℕ)) (lines : LineReader R) (result : Result (Reader × R) ℕ)
    (so : HasRead left left' (HasCome is_new keeps lines)) (end : IsAtEnd left')
    (taken : (text : List ℕ) → Reaches is_new keeps text [] lines → IsTaken keeps text result) where
  pub input_read : (reader : Reader) (keeper : R) → result ≡ Ok (reader, keeper) → IsKeptOf keeps left left' keeper reader.entries
  input_read reader keeper is =
      let read : IsRead keeps so.bytes reader keeper = subst (λ (r : Result (Reader × R) ℕ). IsTaken keeps so.bytes r) is (taken so.bytes so.says.reaches) in
      record {
        text = read.text;
        read = record { bytes = so.bytes; whole = come_whole is_new keeps left left' lines so end; read = (reader.form, read.read.reading) };
        kept = read.kept;
        count = read.read.reader_is.entries;
      }

  pub input_bad : (line : ℕ) → result ≡ Err line → IsBadInput left left' line
  input_bad line is = record {
    bytes = so.bytes;
    whole = come_whole is_new keeps left left' lines so end;
    bad = subst (λ (r : Result (Reader × R) ℕ). IsTaken keeps so.bytes r) is (taken so.bytes so.says.reaches);
  }
