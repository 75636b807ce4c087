-- What the reading of a journal ends with.
use Rattle.std.proofs.Common.{◌≡◌, ℕ, zero, suc, ◌+◌, ◌-◌, ◌<◌, ◌≤◌, List, [], ◌∷◌, ◌++◌, length, Option, None, Some, inl, inr, refl, sym, ap, ◌∙◌, subst, arith, append_assoc, append-nil}
use Rattle.std.specs.List.{flat_map}
use Rattle.std.proofs.lemmas.Bool.{cases_lt}
use Rattle.journal_text.specs.declared.text.Format.{Format}
use Rattle.journal_text.specs.declared.text.Format.TheVariants.{First}
use Rattle.journal_text.specs.declared.text.JournalText.{JournalText}
use Rattle.journal_text.specs.declared.text.Line.{Line}
use Rattle.journal_text.specs.declared.reading.Reader.{Reader}
use Rattle.journal_text.specs.Lines.{IsOpening}
use Rattle.journal_text.specs.Words.{IsRow, first_words, last_words, words_of}
use Rattle.journal_text.specs.Journals.{BeginsWith, IsBadLine, IsReadingIn, IsWithin, body_rows, file_text, first_text, last_text, line_text, rows_of, text_of}
use Rattle.journal_text.specs.Reader.{IsReader, IsUnfit, last_name}
use Rattle.journal_text.specs.SoFar.{Begins, Goes, IsReadBy, IsSoFar, more, one_more}
use Rattle.journal_text.proofs.Fronts.{Row, ended, missing, missing_first, not_begun, refused}
use Rattle.journal_text.proofs.Rows.{row_of_words}

-- ---- how many lines

begins_with : (n : ℕ) (rows : List (List ℕ)) (bytes : List ℕ) → BeginsWith n rows bytes → Begins (Some n) rows bytes
begins_with zero rows bytes h = tt
begins_with (suc n) [] bytes h = h
begins_with (suc n) (row ∷ rows) bytes (rest, is, h) = (rest, is, begins_with n rows rest h)

pub all_begin : (rows : List (List ℕ)) (bytes : List ℕ) → bytes ≡ text_of rows → Begins None rows bytes
all_begin [] bytes e = e
all_begin (row ∷ rows) bytes e = (text_of rows, e, all_begin rows (text_of rows) refl)

more_all : (n : ℕ) → more n None ≡ None
more_all zero = refl
more_all (suc n) = more_all n

more_some : (n m : ℕ) → more n (Some m) ≡ Some (n + m)
more_some zero m = ap Some (omega arith)
more_some (suc n) m = more_some n (suc m) ∙ ap Some (omega arith)

-- ---- the text of what the reader has

abbrev File : Type 0
File = List ℕ × List ℕ

body_text : (form : Format) (before : ℕ) (files : List File) (lines : List Line)
    → text_of (body_rows form before files lines) ≡ flat_map file_text files ++ (flat_map (line_text form) lines ++ last_text form (before + length lines))
body_text form before [] [] = ap (λ (n : ℕ). last_text form n ++ []) (omega arith) ∙ append-nil (last_text form (before + 0))
body_text form before [] (line ∷ lines) =
    ap (λ (l : List ℕ). line_text form line ++ l) (body_text form (suc before) [] lines)
    ∙ sym (append_assoc (line_text form line) (flat_map (line_text form) lines) (last_text form (suc before + length lines)))
    ∙ ap (λ (n : ℕ). (line_text form line ++ flat_map (line_text form) lines) ++ last_text form n) (omega arith)
body_text form before (file ∷ files) lines =
    ap (λ (l : List ℕ). file_text file ++ l) (body_text form before files lines)
    ∙ sym (append_assoc (file_text file) (flat_map file_text files) (flat_map (line_text form) lines ++ last_text form (before + length lines)))

pub whole_text : (form : Format) (text : JournalText)
    → first_text form text.opened text.first ++ (flat_map file_text text.files ++ (flat_map (line_text form) text.lines ++ last_text form (length text.lines)))
    ≡ text_of (rows_of form text)
whole_text form text =
    ap (λ (n : ℕ). first_text form text.opened text.first ++ (flat_map file_text text.files ++ (flat_map (line_text form) text.lines ++ last_text form n))) (omega arith)
    ∙ ap (λ (l : List ℕ). first_text form text.opened text.first ++ l) (sym (body_text form 0 text.files text.lines))

body_begins : (form : Format) (before n : ℕ) (files : List File) (lines : List Line) (rest : List ℕ) → n ≤ length files + length lines
    → BeginsWith n (body_rows form before files lines) (flat_map file_text files ++ (flat_map (line_text form) lines ++ rest))
body_begins form before zero files lines rest h = tt
body_begins form before (suc n) [] [] rest h = absurd (omega (arith, h))
body_begins form before (suc n) [] (line ∷ lines) rest h =
    (flat_map (line_text form) lines ++ rest, append_assoc (line_text form line) (flat_map (line_text form) lines) rest, body_begins form (suc before) n [] lines rest (omega (arith, h)))
body_begins form before (suc n) (file ∷ files) lines rest h = (
  flat_map file_text files ++ (flat_map (line_text form) lines ++ rest),
  append_assoc (file_text file) (flat_map file_text files) (flat_map (line_text form) lines ++ rest),
  body_begins form before n files lines rest (omega (arith, h)),
)

own_begin : (bytes rest : List ℕ) (form : Format) (text : JournalText) (n : ℕ) → IsSoFar bytes rest form text n → BeginsWith n (rows_of form text) bytes
own_begin bytes rest form text n so =
    subst (λ (m : ℕ). BeginsWith m (rows_of form text) bytes) (sym so.count) (
      flat_map file_text text.files ++ (flat_map (line_text form) text.lines ++ rest),
      so.whole,
      body_begins form 0 (length text.files + length text.lines) text.files text.lines rest (omega arith),
    )

-- ---- outcomes

-- whatever begins goes on, and nothing may come next
bad_next : (bytes rest : List ℕ) (form : Format) (text : JournalText) (n : ℕ) → IsWithin form text → IsSoFar bytes rest form text n
    → ((other : Format) (k : Option ℕ) → Goes form other (last_name None text.files) (length text.lines) rest (one_more k) → ⊥) → IsBadLine bytes (suc n)
bad_next bytes rest form text n h so stuck =
    let before : suc n - 1 ≡ n = omega arith in
    let one : more n (Some 1) ≡ Some (suc n) = more_some n 1 ∙ ap Some (omega arith) in
    record {
      counted = omega arith;
      good = (form, text, h, subst (λ (m : ℕ). BeginsWith m (rows_of form text) bytes) (sym before) (own_begin bytes rest form text n so));
      bad = λ other any within begins.
          stuck other (Some 0) (so.only other any (Some 1) within
          (subst (λ (k : Option ℕ). Begins k (rows_of other any) bytes) (sym one) (begins_with (suc n) (rows_of other any) bytes begins)));
      unread = λ any reading.
          let (other, (within, is)) = reading in
          stuck other None (so.only other any None within
          (subst (λ (k : Option ℕ). Begins k (rows_of other any) bytes) (sym (more_all n)) (all_begin (rows_of other any) bytes is)));
    }

unfit_there : (words : List (List ℕ)) (reader : Reader) (text : JournalText) → IsReader reader text → IsUnfit words reader.form reader.last reader.entries
    → IsUnfit words reader.form (last_name None text.files) (length text.lines)
unfit_there words reader text h unfit =
    subst (λ (n : ℕ). IsUnfit words reader.form (last_name None text.files) n) h.entries
    (subst (λ (l : Option (List ℕ)). IsUnfit words reader.form l reader.entries) h.last unfit)

pub bad_row : (bytes rest row behind : List ℕ) (reader : Reader) (text : JournalText) (n : ℕ) → Row rest row behind → IsReader reader text
    → IsSoFar bytes rest reader.form text n → IsUnfit (words_of row) reader.form reader.last reader.entries → IsBadLine bytes (suc n)
bad_row bytes rest row behind reader text n cut h so unfit =
    let there = unfit_there (words_of row) reader text h unfit in
    bad_next bytes rest reader.form text n h.within so
    (λ other k goes. refused reader.form other (last_name None text.files) (length text.lines) k rest row behind cut there h.within.few goes)

pub no_row_left : (bytes rest : List ℕ) (reader : Reader) (text : JournalText) (n : ℕ) → IsRow rest → IsReader reader text → IsSoFar bytes rest reader.form text n
    → IsBadLine bytes (suc n)
no_row_left bytes rest reader text n none h so =
    bad_next bytes rest reader.form text n h.within so (λ other k goes. missing reader.form other (last_name None text.files) (length text.lines) k rest none goes)

last_there : (words : List (List ℕ)) (reader : Reader) (text : JournalText) → IsReader reader text → words ≡ last_words reader.form reader.entries
    → words ≡ last_words reader.form (length text.lines)
last_there words reader text h is = is ∙ ap (last_words reader.form) h.entries

-- the bytes end with the last line
all_read_in : (bytes rest row behind : List ℕ) (form : Format) (text : JournalText) (n : ℕ) → Row rest row behind → IsWithin form text → IsSoFar bytes rest form text n
    → words_of row ≡ last_words form (length text.lines) → behind ≡ [] → IsReadingIn form bytes text
all_read_in bytes rest row behind form text n cut h so words none =
    let cut_row : rest ≡ last_text form (length text.lines) =
    cut.cut ∙ row_of_words row behind (last_words form (length text.lines)) words
    ∙ ap (λ (l : List ℕ). last_text form (length text.lines) ++ l) none ∙ append-nil (last_text form (length text.lines))
    in (
      h,
      so.whole
          ∙ ap (λ (l : List ℕ). first_text form text.opened text.first ++ (flat_map file_text text.files ++ (flat_map (line_text form) text.lines ++ l)))
          (cut_row ∙ ap (last_text form) (omega arith))
          ∙ ap (λ (l : List ℕ). first_text form text.opened text.first ++ l) (sym (body_text form 0 text.files text.lines)),
    )

pub all_read : (bytes rest row behind : List ℕ) (reader : Reader) (text : JournalText) (n : ℕ) → Row rest row behind → IsReader reader text
    → IsSoFar bytes rest reader.form text n → words_of row ≡ last_words reader.form reader.entries → behind ≡ [] → IsReadBy bytes reader text
all_read bytes rest row behind reader text n cut h so words none =
    record {
      reader_is = h;
      reading = all_read_in bytes rest row behind reader.form text n cut h.within so (last_there (words_of row) reader text h words) none;
    }

last_begins : (form : Format) (before n : ℕ) (files : List File) (lines : List Line) (behind : List ℕ) → n ≡ length files + length lines
    → BeginsWith (suc n) (body_rows form before files lines)
    (flat_map file_text files ++ (flat_map (line_text form) lines ++ (last_text form (before + length lines) ++ behind)))
last_begins form before n [] [] behind h =
    let none : n ≡ 0 = h in
    subst (λ (m : ℕ). BeginsWith (suc m) (last_text form before ∷ []) (last_text form (before + 0) ++ behind)) (sym none)
    (behind, ap (λ (m : ℕ). last_text form m ++ behind) (omega arith), tt)
last_begins form before zero [] (line ∷ lines) behind h = absurd (omega (arith, h))
last_begins form before (suc n) [] (line ∷ lines) behind h = (
  flat_map (line_text form) lines ++ (last_text form (suc before + length lines) ++ behind),
  append_assoc (line_text form line) (flat_map (line_text form) lines) (last_text form (before + length (line ∷ lines)) ++ behind)
      ∙ ap (λ (m : ℕ). line_text form line ++ (flat_map (line_text form) lines ++ (last_text form m ++ behind))) (omega arith),
  last_begins form (suc before) n [] lines behind (omega (arith, h)),
)
last_begins form before zero (file ∷ files) lines behind h = absurd (omega (arith, h))
last_begins form before (suc n) (file ∷ files) lines behind h = (
  flat_map file_text files ++ (flat_map (line_text form) lines ++ (last_text form (before + length lines) ++ behind)),
  append_assoc (file_text file) (flat_map file_text files) (flat_map (line_text form) lines ++ (last_text form (before + length lines) ++ behind)),
  last_begins form before n files lines behind (omega (arith, h)),
)

-- something stands behind the last line
more_behind_in : (bytes rest row behind : List ℕ) (form : Format) (text : JournalText) (n : ℕ) → Row rest row behind → IsWithin form text → IsSoFar bytes rest form text n
    → words_of row ≡ last_words form (length text.lines) → 0 < length behind → IsBadLine bytes (suc (suc n))
more_behind_in bytes rest row behind form text n cut h so words some =
    let before : suc (suc n) - 1 ≡ suc n = omega arith in
    let two : more n (Some 2) ≡ Some (suc (suc n)) = more_some n 2 ∙ ap Some (omega arith) in
    let cut_row : rest ≡ last_text form (0 + length text.lines) ++ behind =
    cut.cut ∙ row_of_words row behind (last_words form (length text.lines)) words
    ∙ ap (λ (m : ℕ). last_text form m ++ behind) (omega arith)
    in
    record {
      counted = omega arith;
      good = (
        form,
        text,
        h,
        subst (λ (m : ℕ). BeginsWith m (rows_of form text) bytes) (ap suc (sym so.count) ∙ sym before) (
          flat_map file_text text.files ++ (flat_map (line_text form) text.lines ++ (last_text form (0 + length text.lines) ++ behind)),
          so.whole ∙ ap (λ (l : List ℕ). first_text form text.opened text.first ++ (flat_map file_text text.files ++ (flat_map (line_text form) text.lines ++ l))) cut_row,
          last_begins form 0 (length text.files + length text.lines) text.files text.lines behind refl,
        ),
      );
      bad = λ other any within begins.
          ended form other (last_name None text.files) (length text.lines) (Some 1) rest row behind cut words h.few
          (so.only other any (Some 2) within
          (subst (λ (k : Option ℕ). Begins k (rows_of other any) bytes) (sym two) (begins_with (suc (suc n)) (rows_of other any) bytes begins)));
      unread = λ any reading.
          let (other, (within, is)) = reading in
          let none : behind ≡ [] = ended form other (last_name None text.files) (length text.lines) None rest row behind cut words h.few
          (so.only other any None within
          (subst (λ (k : Option ℕ). Begins k (rows_of other any) bytes) (sym (more_all n)) (all_begin (rows_of other any) bytes is)))
          in
          omega (arith, some, ap length none);
    }

pub more_behind : (bytes rest row behind : List ℕ) (reader : Reader) (text : JournalText) (n : ℕ) → Row rest row behind → IsReader reader text
    → IsSoFar bytes rest reader.form text n → words_of row ≡ last_words reader.form reader.entries → 0 < length behind → IsBadLine bytes (suc (suc n))
more_behind bytes rest row behind reader text n cut h so words some =
    more_behind_in bytes rest row behind reader.form text n cut h.within so (last_there (words_of row) reader text h words) some

-- the first line is none
abbrev small_text : JournalText
small_text = record { opened = 0; first = 1; files = []; lines = [] }

small_within : IsWithin First small_text
small_within = record { opening = (omega arith, refl); files = tt; lines = tt; few = omega arith; timed = tt }

first_bad : (bytes : List ℕ) → ((other : Format) (text : JournalText) (k : Option ℕ) → IsWithin other text → Begins (one_more k) (rows_of other text) bytes → ⊥)
    → IsBadLine bytes 1
first_bad bytes stuck = record {
  counted = omega arith;
  good = (First, small_text, small_within, tt);
  bad = λ form text within begins. stuck form text (Some 0) within (begins_with 1 (rows_of form text) bytes begins);
  unread = λ text reading. let (form, (within, is)) = reading in stuck form text None within (all_begin (rows_of form text) bytes is);
}

pub no_first : (bytes row behind : List ℕ) → Row bytes row behind
    → ((form : Format) (opened first : ℕ) → IsOpening form opened first → words_of row ≡ first_words form opened first → ⊥) → IsBadLine bytes 1
no_first bytes row behind cut none = first_bad bytes (λ other text k within begins. not_begun bytes row behind k other text cut none within begins)

pub no_row_first : (bytes : List ℕ) → IsRow bytes → IsBadLine bytes 1
no_row_first bytes h = first_bad bytes (λ other text k within begins. missing_first other text k bytes h begins)

-- fewer lines begin where more do
fewer : (n m : ℕ) (rows : List (List ℕ)) (bytes : List ℕ) → n ≤ m → BeginsWith m rows bytes → BeginsWith n rows bytes
fewer zero m rows bytes h begins = tt
fewer (suc n) zero rows bytes h begins = absurd (omega (arith, h))
fewer (suc n) (suc m) [] bytes h begins = begins
fewer (suc n) (suc m) (row ∷ rows) bytes h (rest, is, begins) = (rest, is, fewer n m rows rest (omega (arith, h)) begins)

not_later : (bytes : List ℕ) (number other : ℕ) → IsBadLine bytes number → IsBadLine bytes other → number < other → ⊥
not_later bytes number other h k less =
    let (form, text, within, begins) = k.good in
    h.bad form text within (fewer number (other - 1) (rows_of form text) bytes (omega (arith, less)) begins)

pub one_bad : (bytes : List ℕ) (number other : ℕ) → IsBadLine bytes number → IsBadLine bytes other → number ≡ other
one_bad bytes number other h k =
    elim (cases_lt number other) [
      | inl less ↦ absurd (not_later bytes number other h k less)
      | inr least ↦ elim (cases_lt other number) [
        | inl more ↦ absurd (not_later bytes other number k h more)
        | inr most ↦ omega (arith, least, most)
      ]
    ]
