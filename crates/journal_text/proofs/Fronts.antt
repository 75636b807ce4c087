-- What may come behind the lines that were read.
use Rattle.std.proofs.Common.{◌≡◌, ℕ, suc, ◌+◌, ◌<◌, ◌≤◌, List, [], ◌∷◌, ◌++◌, length, get_or, Option, None, Some, inl, inr, refl, sym, ap, ◌∙◌, subst, arith, append_assoc}
use Rattle.std.proofs.lemmas.Bool.{cases_lt}
use Rattle.std.specs.Prelude.{codes}
use Rattle.std.specs.List.{AllByRecursion, join_with_byte}
use Rattle.wopi_text.proofs.IdLemmas.{id_of-injective}
use Rattle.journal_text.specs.declared.text.Format.{Format}
use Rattle.journal_text.specs.declared.text.Format.TheVariants.{First, Second}
use Rattle.journal_text.specs.declared.text.JournalText.{JournalText}
use Rattle.journal_text.specs.declared.text.Line.{Line}
use Rattle.journal_text.specs.Lines.{Fits, IsFile, IsLine, IsOpening}
use Rattle.journal_text.specs.Words.{IsRow, file_words, first_words, last_words, line_words, words_of}
use Rattle.journal_text.specs.Journals.{AreFiles, IsWithin, body_rows, file_text, first_text, last_text, line_text, most_entries, row_text, rows_of}
use Rattle.journal_text.specs.Reader.{IsUnfit}
use Rattle.journal_text.specs.SoFar.{Begins, Goes, one_more}
use Rattle.journal_text.proofs.RowKinds.{file_no_line, last_no_file, last_no_line}
use Rattle.journal_text.proofs.Plain.{feed, file-lacks, first-lacks, last-lacks, line-lacks, space}
use Rattle.journal_text.proofs.Rows.{no_line, row_said}
use Rattle.line_text.proofs.Splits.{EachLacks}

-- what is left, cut behind its first line
pub record Row (rest row behind : List ℕ) : Type 0 where
  pub cut : rest ≡ row ++ 10 ∷ behind
  pub line : IsRow row

-- a first line of words is the one that was cut
head_said : (k : Option ℕ) (rest row behind word : List ℕ) (words rows : List (List ℕ)) → Row rest row behind → EachLacks 32 (word ∷ words) → EachLacks 10 (word ∷ words)
    → Begins (one_more k) (row_text (word ∷ words) ∷ rows) rest → (words_of row ≡ word ∷ words) × Begins k rows behind
head_said None rest row behind word words rows cut spaces feeds (more, is, begins) =
    let said = row_said row behind more word words cut.line spaces feeds (sym cut.cut ∙ is) in
    (said.0, subst (Begins None rows) (sym said.1) begins)
head_said (Some n) rest row behind word words rows cut spaces feeds (more, is, begins) =
    let said = row_said row behind more word words cut.line spaces feeds (sym cut.cut ∙ is) in
    (said.0, subst (Begins (Some n) rows) (sym said.1) begins)

file_head : (k : Option ℕ) (rest row behind : List ℕ) (file : List ℕ × List ℕ) (rows : List (List ℕ)) → Row rest row behind → IsFile file
    → Begins (one_more k) (file_text file ∷ rows) rest → (words_of row ≡ file_words file) × Begins k rows behind
file_head k rest row behind file rows cut form begins =
    head_said k rest row behind _ _ rows cut (file-lacks 32 file space form) (file-lacks 10 file feed form) begins

line_head : (form : Format) (k : Option ℕ) (rest row behind : List ℕ) (line : Line) (rows : List (List ℕ)) → Row rest row behind → IsLine form line
    → Begins (one_more k) (line_text form line ∷ rows) rest → (words_of row ≡ line_words form line) × Begins k rows behind
line_head form k rest row behind line rows cut is begins =
    head_said k rest row behind _ _ rows cut (line-lacks form 32 line space is) (line-lacks form 10 line feed is) begins

last_head : (form : Format) (k : Option ℕ) (rest row behind : List ℕ) (entries : ℕ) (rows : List (List ℕ)) → Row rest row behind → Fits entries
    → Begins (one_more k) (last_text form entries ∷ rows) rest → (words_of row ≡ last_words form entries) × Begins k rows behind
last_head First k rest row behind entries rows cut is begins =
    head_said k rest row behind _ _ rows cut (last-lacks First 32 entries space is) (last-lacks First 10 entries feed is) begins
last_head Second k rest row behind entries rows cut is begins =
    head_said k rest row behind _ _ rows cut (last-lacks Second 32 entries space is) (last-lacks Second 10 entries feed is) begins

first_head : (form : Format) (k : Option ℕ) (rest row behind : List ℕ) (opened first : ℕ) (rows : List (List ℕ)) → Row rest row behind → IsOpening form opened first
    → Begins (one_more k) (first_text form opened first ∷ rows) rest → (words_of row ≡ first_words form opened first) × Begins k rows behind
first_head First k rest row behind opened first rows cut is begins =
    head_said k rest row behind _ _ rows cut (first-lacks First 32 opened first space is) (first-lacks First 10 opened first feed is) begins
first_head Second k rest row behind opened first rows cut is begins =
    head_said k rest row behind _ _ rows cut (first-lacks Second 32 opened first space is) (first-lacks Second 10 opened first feed is) begins

-- ---- the first line

pub same_form : (form other : Format) (opened first later version : ℕ) → first_words form opened first ≡ first_words other later version → other ≡ form
same_form First First opened first later version e = refl
same_form Second Second opened first later version e = refl
same_form First Second opened first later version e =
    let digits : codes "1" ≡ codes "2" = ap (λ l. get_or l 2 []) e in let byte : ◌≡◌ {A = ℕ} 49 50 = ap (λ l. get_or l 0 0) digits in absurd (omega (arith, byte))
same_form Second First opened first later version e =
    let digits : codes "2" ≡ codes "1" = ap (λ l. get_or l 2 []) e in let byte : ◌≡◌ {A = ℕ} 50 49 = ap (λ l. get_or l 0 0) digits in absurd (omega (arith, byte))

pub begun : (form other : Format) (opened first : ℕ) (text : JournalText) (k : Option ℕ) (bytes row behind : List ℕ) → Row bytes row behind
    → words_of row ≡ first_words form opened first → IsWithin other text → Begins (one_more k) (rows_of other text) bytes → Goes form other None 0 behind k
begun form other opened first text k bytes row behind cut words within begins =
    let head = first_head other k bytes row behind text.opened text.first (body_rows other 0 text.files text.lines) cut within.opening begins in
    let same = same_form form other opened first text.opened text.first (sym words ∙ head.0) in
    let few = within.few in
    record {
      same = same;
      files = text.files;
      lines = text.lines;
      files_are = within.files;
      lines_are = subst (λ (f : Format). AllByRecursion (IsLine f) text.lines) same within.lines;
      few = omega (arith, few);
      none = λ h. absurd (omega (arith, h));
      begins = subst (λ (f : Format). Begins k (body_rows f 0 text.files text.lines) behind) same head.1;
    }

pub not_begun : (bytes row behind : List ℕ) (k : Option ℕ) (other : Format) (text : JournalText) → Row bytes row behind
    → ((form : Format) (opened first : ℕ) → IsOpening form opened first → words_of row ≡ first_words form opened first → ⊥)
    → IsWithin other text → Begins (one_more k) (rows_of other text) bytes → ⊥
not_begun bytes row behind k other text cut none within begins =
    let head = first_head other k bytes row behind text.opened text.first (body_rows other 0 text.files text.lines) cut within.opening begins in
    none other text.opened text.first within.opening head.0

-- ---- one line more

next_file : (form : Format) (last : Option (List ℕ)) (k : Option ℕ) (rest row behind : List ℕ) (file : List ℕ × List ℕ) → Row rest row behind → IsFile file
    → words_of row ≡ file_words file → (files : List (List ℕ × List ℕ)) (lines : List Line) → AreFiles last files → AllByRecursion (IsLine form) lines
    → 0 + length lines ≤ most_entries → Begins (one_more k) (body_rows form 0 files lines) rest → Goes form form (Some file.0) 0 behind k
next_file form last k rest row behind file cut is words [] [] are each few begins =
    let head = last_head form k rest row behind 0 [] cut (omega arith) begins in absurd (last_no_file form 0 file (sym head.0 ∙ words))
next_file form last k rest row behind file cut is words [] (line ∷ lines) are each few begins =
    let head = line_head form k rest row behind line (body_rows form 1 [] lines) cut each.0 begins in absurd (file_no_line form file line (sym words ∙ head.0))
next_file form last k rest row behind file cut is words (one ∷ files) lines are each few begins =
    let head = file_head k rest row behind one (body_rows form 0 files lines) cut are.0 begins in
    let ids = ap (λ l. get_or l 1 []) (sym head.0 ∙ words) in
    let name = id_of-injective one.0 file.0 are.0.name is.name ids in
    record {
      same = refl;
      files = files;
      lines = lines;
      files_are = subst (λ (n : List ℕ). AreFiles (Some n) files) name are.2;
      lines_are = each;
      few = few;
      none = λ h. absurd (omega (arith, h));
      begins = head.1;
    }

pub file_taken : (form other : Format) (last : Option (List ℕ)) (before : ℕ) (k : Option ℕ) (rest row behind : List ℕ) (file : List ℕ × List ℕ) → Row rest row behind → IsFile file
    → words_of row ≡ file_words file → before ≡ 0 → Goes form other last before rest (one_more k) → Goes form other (Some file.0) before behind k
file_taken form other last before k rest row behind file cut is words none goes =
    let few : 0 + length goes.lines ≤ most_entries = (let few = goes.few in omega (arith, few, none)) in
    let begins : Begins (one_more k) (body_rows form 0 goes.files goes.lines) rest =
    subst (λ (n : ℕ). Begins (one_more k) (body_rows form n goes.files goes.lines) rest) none goes.begins
    in
    let next = next_file form last k rest row behind file cut is words goes.files goes.lines goes.files_are goes.lines_are few begins in
    subst (λ (f : Format). Goes form f (Some file.0) before behind k) (sym goes.same)
    (subst (λ (n : ℕ). Goes form form (Some file.0) n behind k) (sym none) next)

next_line : (form : Format) (last : Option (List ℕ)) (before : ℕ) (k : Option ℕ) (rest row behind : List ℕ) (line : Line) → Row rest row behind
    → words_of row ≡ line_words form line → before < most_entries → (files : List (List ℕ × List ℕ)) (lines : List Line) → AreFiles last files → AllByRecursion (IsLine form) lines
    → before + length lines ≤ most_entries → Begins (one_more k) (body_rows form before files lines) rest → Goes form form last (suc before) behind k
next_line form last before k rest row behind line cut words more [] [] are each few begins =
    let head = last_head form k rest row behind before [] cut (omega (arith, more)) begins in absurd (last_no_line form before line (sym head.0 ∙ words))
next_line form last before k rest row behind line cut words more [] (one ∷ lines) are each few begins =
    let head = line_head form k rest row behind one (body_rows form (suc before) [] lines) cut each.0 begins in
    record {
      same = refl;
      files = [];
      lines = lines;
      files_are = tt;
      lines_are = each.1;
      few = omega (arith, few);
      none = λ h. refl;
      begins = head.1;
    }
next_line form last before k rest row behind line cut words more (one ∷ files) lines are each few begins =
    let head = file_head k rest row behind one (body_rows form before files lines) cut are.0 begins in absurd (file_no_line form one line (sym head.0 ∙ words))

pub line_taken : (form other : Format) (last : Option (List ℕ)) (before : ℕ) (k : Option ℕ) (rest row behind : List ℕ) (line : Line) → Row rest row behind
    → words_of row ≡ line_words form line → before < most_entries → Goes form other last before rest (one_more k) → Goes form other last (suc before) behind k
line_taken form other last before k rest row behind line cut words more goes =
    subst (λ (f : Format). Goes form f last (suc before) behind k) (sym goes.same)
    (next_line form last before k rest row behind line cut words more goes.files goes.lines goes.files_are goes.lines_are goes.few goes.begins)

-- ---- no line more

pub no_items : {T : Type 0} (xs : List T) → length xs ≤ 0 → xs ≡ []
no_items [] h = refl
no_items (x ∷ xs) h = absurd (omega (arith, h))

no_next : (form : Format) (mark : Option (List ℕ)) (entries : ℕ) (k : Option ℕ) (rest row behind : List ℕ) → Row rest row behind → IsUnfit (words_of row) form mark entries
    → entries ≤ most_entries → (files : List (List ℕ × List ℕ)) (lines : List Line) → AreFiles mark files → AllByRecursion (IsLine form) lines
    → entries + length lines ≤ most_entries → (0 < entries → files ≡ []) → Begins (one_more k) (body_rows form entries files lines) rest → ⊥
no_next form mark entries k rest row behind cut unfit within [] [] are each few none begins =
    let head = last_head form k rest row behind entries [] cut (omega (arith, within)) begins in unfit.last head.0
no_next form mark entries k rest row behind cut unfit within [] (line ∷ lines) are each few none begins =
    let head = line_head form k rest row behind line (body_rows form (suc entries) [] lines) cut each.0 begins in
    unfit.line line each.0 (omega (arith, few)) head.0
no_next form mark entries k rest row behind cut unfit within (file ∷ files) lines are each few none begins =
    let head = file_head k rest row behind file (body_rows form entries files lines) cut are.0 begins in
    let empty : entries ≡ 0 = elim (cases_lt 0 entries) [
      | inl some ↦ (let files_none = none some in absurd (omega (arith, ap length files_none)))
      | inr least ↦ omega (arith, least)
    ] in
    unfit.file file are.0 empty are.1 head.0

pub refused : (form other : Format) (mark : Option (List ℕ)) (entries : ℕ) (k : Option ℕ) (rest row behind : List ℕ) → Row rest row behind
    → IsUnfit (words_of row) form mark entries → entries ≤ most_entries → Goes form other mark entries rest (one_more k) → ⊥
refused form other mark entries k rest row behind cut unfit within goes =
    no_next form mark entries k rest row behind cut unfit within goes.files goes.lines goes.files_are goes.lines_are goes.few goes.none goes.begins

-- no line is left
no_row : (k : Option ℕ) (rest line : List ℕ) (rows : List (List ℕ)) → IsRow rest → Begins (one_more k) ((line ++ 10 ∷ []) ∷ rows) rest → ⊥
no_row None rest line rows h (more, is, begins) = no_line rest line more h (is ∙ append_assoc line (10 ∷ []) more)
no_row (Some n) rest line rows h (more, is, begins) = no_line rest line more h (is ∙ append_assoc line (10 ∷ []) more)

pub missing_in : (form : Format) (before : ℕ) (k : Option ℕ) (rest : List ℕ) → IsRow rest → (files : List (List ℕ × List ℕ)) (lines : List Line)
    → Begins (one_more k) (body_rows form before files lines) rest → ⊥
missing_in form before k rest h [] [] begins = no_row k rest (join_with_byte 32 (last_words form before)) [] h begins
missing_in form before k rest h [] (line ∷ lines) begins = no_row k rest (join_with_byte 32 (line_words form line)) _ h begins
missing_in form before k rest h (file ∷ files) lines begins = no_row k rest (join_with_byte 32 (file_words file)) _ h begins

pub missing : (form other : Format) (last : Option (List ℕ)) (before : ℕ) (k : Option ℕ) (rest : List ℕ) → IsRow rest → Goes form other last before rest (one_more k) → ⊥
missing form other last before k rest h goes = missing_in form before k rest h goes.files goes.lines goes.begins

pub missing_first : (other : Format) (text : JournalText) (k : Option ℕ) (bytes : List ℕ) → IsRow bytes → Begins (one_more k) (rows_of other text) bytes → ⊥
missing_first other text k bytes h begins = no_row k bytes (join_with_byte 32 (first_words other text.opened text.first)) _ h begins

-- behind the last line there is nothing
ended_in : (form : Format) (before : ℕ) (k : Option ℕ) (rest row behind : List ℕ) → Row rest row behind → words_of row ≡ last_words form before → before ≤ most_entries
    → (last : Option (List ℕ)) (files : List (List ℕ × List ℕ)) (lines : List Line) → AreFiles last files → AllByRecursion (IsLine form) lines
    → Begins (one_more k) (body_rows form before files lines) rest → Begins k [] behind
ended_in form before k rest row behind cut words within last [] [] are each begins =
    let head = last_head form k rest row behind before [] cut (omega (arith, within)) begins in head.1
ended_in form before k rest row behind cut words within last [] (line ∷ lines) are each begins =
    let head = line_head form k rest row behind line (body_rows form (suc before) [] lines) cut each.0 begins in absurd (last_no_line form before line (sym words ∙ head.0))
ended_in form before k rest row behind cut words within last (file ∷ files) lines are each begins =
    let head = file_head k rest row behind file (body_rows form before files lines) cut are.0 begins in absurd (last_no_file form before file (sym words ∙ head.0))

pub ended : (form other : Format) (last : Option (List ℕ)) (before : ℕ) (k : Option ℕ) (rest row behind : List ℕ) → Row rest row behind
    → words_of row ≡ last_words form before → before ≤ most_entries → Goes form other last before rest (one_more k) → Begins k [] behind
ended form other last before k rest row behind cut words within goes =
    ended_in form before k rest row behind cut words within last goes.files goes.lines goes.files_are goes.lines_are goes.begins
