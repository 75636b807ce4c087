-- A journal, read one line further.
use Rattle.std.proofs.Common.{◌≡◌, ℕ, suc, ◌<◌, List, [], ◌∷◌, ◌++◌, length, Option, None, Some, inl, inr, refl, sym, ap, ◌∙◌, subst, arith, append_assoc, append-nil}
use Rattle.std.specs.List.{AllByRecursion, flat_map}
use Rattle.std.proofs.lemmas.Grind.{flat_map-append}
use Rattle.std.proofs.lemmas.List.{length-append}
use Rattle.journal_text.specs.declared.text.Format.{Format}
use Rattle.journal_text.specs.declared.text.Line.{Line}
use Rattle.journal_text.specs.declared.text.JournalText.{JournalText}
use Rattle.journal_text.specs.declared.reading.Reader.{Reader}
use Rattle.journal_text.specs.Lines.{IsFile, IsLine}
use Rattle.journal_text.specs.Words.{file_words, first_words, line_words, words_of}
use Rattle.journal_text.specs.Journals.{AreFiles, AreTimed, IsAfter, IsTimed, file_text, first_text, line_text, most_entries}
use Rattle.journal_text.specs.Reader.{Adds, IsReader, TakesFile, TakesLine, begun_text, last_name, time_of, with_file, with_line}
use Rattle.journal_text.specs.SoFar.{Goes, IsSoFar, one_more}
use Rattle.journal_text.proofs.Clocks.{HasTimes-more, timed_line}
use Rattle.journal_text.proofs.Fronts.{Row, begun, file_taken, line_taken, no_items}
use Rattle.journal_text.proofs.Rows.{row_of_words}

-- ---- lists that grow at their end

AreFiles-more : (last : Option (List ℕ)) (files : List (List ℕ × List ℕ)) (file : List ℕ × List ℕ) → AreFiles last files → IsFile file
    → IsAfter (last_name last files) file.0 → AreFiles last (files ++ file ∷ [])
AreFiles-more last [] file are is after = (is, after, tt)
AreFiles-more last (one ∷ files) file are is after = (are.0, are.1, AreFiles-more (Some one.0) files file are.2 is after)

last_name-more : (last : Option (List ℕ)) (files : List (List ℕ × List ℕ)) (file : List ℕ × List ℕ) → last_name last (files ++ file ∷ []) ≡ Some file.0
last_name-more last [] file = refl
last_name-more last (one ∷ files) file = last_name-more (Some one.0) files file

all-more : (form : Format) (lines : List Line) (line : Line) → AllByRecursion (IsLine form) lines → IsLine form line → AllByRecursion (IsLine form) (lines ++ line ∷ [])
all-more form [] line are is = (is, tt)
all-more form (one ∷ lines) line are is = (are.0, all-more form lines line are.1 is)

AreTimed-more : (form : Format) (opened : ℕ) (before lines : List Line) (line : Line) → AreTimed form opened before lines → IsTimed form opened (before ++ lines) line
    → AreTimed form opened before (lines ++ line ∷ [])
AreTimed-more form opened before [] line are is = (subst (λ (l : List Line). IsTimed form opened l line) (append-nil before) is, tt)
AreTimed-more form opened before (one ∷ lines) line are is =
    (are.0, AreTimed-more form opened (before ++ one ∷ []) lines line are.1 (subst (λ (l : List Line). IsTimed form opened l line) (sym (append_assoc before (one ∷ []) lines)) is))

-- ---- the reader stays as it has to be

pub reads_file : (words : List (List ℕ)) (old new : Reader) (text : JournalText) (file : List ℕ × List ℕ) → IsReader old text → TakesFile words old file new
    → IsReader new (with_file text file)
reads_file words old new text file h takes =
    let within = h.within in
    let after = subst (λ (l : Option (List ℕ)). IsAfter l file.0) h.last takes.after in
    subst (λ (r : Reader). IsReader r (with_file text file)) (sym takes.new_is)
    (record {
      opened = h.opened;
      first = h.first;
      within = record {
        opening = within.opening;
        files = AreFiles-more None text.files file within.files takes.form_is after;
        lines = within.lines;
        few = within.few;
        timed = within.timed;
      };
      last = sym (last_name-more None text.files file);
      entries = h.entries;
      times = h.times;
    })

pub reads_line : (words : List (List ℕ)) (old new : Reader) (text : JournalText) (line : Line) → IsReader old text → TakesLine words old line new
    → IsReader new (with_line text line)
reads_line words old new text line h takes =
    let within = h.within in
    let is = takes.form_is in
    let len = length-append text.lines (line ∷ []) in
    let few = takes.few in
    let entries = h.entries in
    let timed = timed_line old.form text.opened text.lines line old.nows h.times is.shard takes.clocked in
    subst (λ (r : Reader). IsReader r (with_line text line)) (sym takes.new_is)
    (record {
      opened = h.opened;
      first = h.first;
      within = record {
        opening = within.opening;
        files = within.files;
        lines = all-more old.form text.lines line within.lines is;
        few = omega (arith, len, few, entries);
        timed = AreTimed-more old.form text.opened [] text.lines line within.timed timed;
      };
      last = h.last;
      entries = omega (arith, len, entries);
      times = HasTimes-more old.nows text.opened text.lines line (time_of old.nows line) h.times is.shard is.moment refl;
    })

-- ---- the bytes so far

abbrev File : Type 0
File = List ℕ × List ℕ

flat-more : {X : Type 0} (f : X → List ℕ) (xs : List X) (x : X) → flat_map f (xs ++ x ∷ []) ≡ flat_map f xs ++ f x
flat-more f xs x = flat_map-append f xs (x ∷ []) ∙ ap (λ l. flat_map f xs ++ l) (append-nil (f x))

abbrev front_text : Format → ℕ → ℕ → List File → List Line → List ℕ → List ℕ
front_text form opened first files lines rest = first_text form opened first ++ (flat_map file_text files ++ (flat_map (line_text form) lines ++ rest))

file_front : (form : Format) (opened first : ℕ) (files : List File) (file : File) (rest : List ℕ)
    → front_text form opened first files [] (file_text file ++ rest) ≡ front_text form opened first (files ++ file ∷ []) [] rest
file_front form opened first files file rest =
    ap (λ (l : List ℕ). first_text form opened first ++ l)
    (sym (append_assoc (flat_map file_text files) (file_text file) rest) ∙ ap (λ (l : List ℕ). l ++ rest) (sym (flat-more file_text files file)))

line_front : (form : Format) (opened first : ℕ) (files : List File) (lines : List Line) (line : Line) (rest : List ℕ)
    → front_text form opened first files lines (line_text form line ++ rest) ≡ front_text form opened first files (lines ++ line ∷ []) rest
line_front form opened first files lines line rest =
    ap (λ (l : List ℕ). first_text form opened first ++ (flat_map file_text files ++ l))
    (sym (append_assoc (flat_map (line_text form) lines) (line_text form line) rest) ∙ ap (λ (l : List ℕ). l ++ rest) (sym (flat-more (line_text form) lines line)))

pub file_more : (bytes rest row behind : List ℕ) (form : Format) (text : JournalText) (n : ℕ) (file : File) → Row rest row behind → IsSoFar bytes rest form text n
    → IsFile file → words_of row ≡ file_words file → text.lines ≡ [] → IsSoFar bytes behind form (with_file text file) (suc n)
file_more bytes rest row behind form text n file cut so is words none =
    let empty : length text.lines ≡ 0 = ap length none in
    let cut_row : rest ≡ file_text file ++ behind = cut.cut ∙ row_of_words row behind (file_words file) words in
    let count = so.count in
    let many = length-append text.files (file ∷ []) in
    record {
      whole = so.whole ∙ ap (front_text form text.opened text.first text.files text.lines) cut_row
          ∙ ap (λ (l : List Line). front_text form text.opened text.first text.files l (file_text file ++ behind)) none
          ∙ file_front form text.opened text.first text.files file behind
          ∙ ap (λ (l : List Line). front_text form text.opened text.first (text.files ++ file ∷ []) l behind) (sym none);
      count = omega (arith, count, many);
      only = λ other any k within begins.
          let goes = so.only other any (one_more k) within begins in
          let next = file_taken form other (last_name None text.files) (length text.lines) k rest row behind file cut is words empty goes in
          subst (λ (l : Option (List ℕ)). Goes form other l (length text.lines) behind k) (sym (last_name-more None text.files file)) next;
    }

pub line_more : (bytes rest row behind : List ℕ) (form : Format) (text : JournalText) (n : ℕ) (line : Line) → Row rest row behind → IsSoFar bytes rest form text n
    → words_of row ≡ line_words form line → length text.lines < most_entries → IsSoFar bytes behind form (with_line text line) (suc n)
line_more bytes rest row behind form text n line cut so words few =
    let cut_row : rest ≡ line_text form line ++ behind = cut.cut ∙ row_of_words row behind (line_words form line) words in
    let count = so.count in
    let many = length-append text.lines (line ∷ []) in
    let longer : length (text.lines ++ line ∷ []) ≡ suc (length text.lines) = omega (arith, many) in
    record {
      whole = so.whole ∙ ap (front_text form text.opened text.first text.files text.lines) cut_row
          ∙ line_front form text.opened text.first text.files text.lines line behind;
      count = omega (arith, count, longer);
      only = λ other any k within begins.
          let goes = so.only other any (one_more k) within begins in
          let next = line_taken form other (last_name None text.files) (length text.lines) k rest row behind line cut words few goes in
          subst (λ (m : ℕ). Goes form other (last_name None text.files) m behind k) (sym longer) next;
    }

-- one line further
pub record Further (bytes behind : List ℕ) (new : Reader) (next : JournalText) (n : ℕ) : Type 0 where
  pub reader_is : IsReader new next
  pub so : IsSoFar bytes behind new.form next n

further_file : (bytes rest row behind : List ℕ) (old new : Reader) (text : JournalText) (n : ℕ) (file : File) → Row rest row behind → IsReader old text
    → IsSoFar bytes rest old.form text n → TakesFile (words_of row) old file new → Further bytes behind new (with_file text file) (suc n)
further_file bytes rest row behind old new text n file cut h so takes =
    let entries = h.entries in
    let none = takes.none in
    let form : new.form ≡ old.form = ap (λ (r : Reader). r.form) takes.new_is in
    record {
      reader_is = reads_file (words_of row) old new text file h takes;
      so = subst (λ (f : Format). IsSoFar bytes behind f (with_file text file) (suc n)) (sym form)
          (file_more bytes rest row behind old.form text n file cut so takes.form_is takes.said (no_items text.lines (omega (arith, entries, none))));
    }

further_line : (bytes rest row behind : List ℕ) (old new : Reader) (text : JournalText) (n : ℕ) (line : Line) → Row rest row behind → IsReader old text
    → IsSoFar bytes rest old.form text n → TakesLine (words_of row) old line new → Further bytes behind new (with_line text line) (suc n)
further_line bytes rest row behind old new text n line cut h so takes =
    let entries = h.entries in
    let few = takes.few in
    let form : new.form ≡ old.form = ap (λ (r : Reader). r.form) takes.new_is in
    record {
      reader_is = reads_line (words_of row) old new text line h takes;
      so = subst (λ (f : Format). IsSoFar bytes behind f (with_line text line) (suc n)) (sym form)
          (line_more bytes rest row behind old.form text n line cut so takes.said (omega (arith, entries, few)));
    }

pub further : (bytes rest row behind : List ℕ) (old new : Reader) (text next : JournalText) (n : ℕ) → Row rest row behind → IsReader old text → IsSoFar bytes rest old.form text n
    → Adds (words_of row) old text new next → Further bytes behind new next (suc n)
further bytes rest row behind old new text next n cut h so (inl (file, takes, is)) =
    subst (λ (t : JournalText). Further bytes behind new t (suc n)) (sym is) (further_file bytes rest row behind old new text n file cut h so takes)
further bytes rest row behind old new text next n cut h so (inr (line, takes, is)) =
    subst (λ (t : JournalText). Further bytes behind new t (suc n)) (sym is) (further_line bytes rest row behind old new text n line cut h so takes)

pub so_begun : (bytes row behind : List ℕ) (form : Format) (opened first : ℕ) → Row bytes row behind → words_of row ≡ first_words form opened first
    → IsSoFar bytes behind form (begun_text opened first) 1
so_begun bytes row behind form opened first cut words = record {
  whole = cut.cut ∙ row_of_words row behind _ words;
  count = omega arith;
  only = λ other any k within begins. begun form other opened first any k bytes row behind cut words within begins;
}
