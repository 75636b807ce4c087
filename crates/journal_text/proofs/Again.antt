-- A journal of the first form, written line by line in the second.
use Rattle.std.proofs.Common.{◌≡◌, ℕ, Bool, true, false, suc, ◌+◌, ◌≤◌, List, [], ◌∷◌, ◌++◌, length, get_or, drop, Option, None, Some, Result, Ok, Err, inl, inr, refl, sym, ap, ◌∙◌, subst, arith, append_assoc, append-nil, ◌⊎◌}
use Rattle.std.specs.Prelude.{OnErr, OnOk, codes, decimal, max}
use Rattle.std.specs.Io.KnownBytes.{Appends}
use Rattle.std.specs.Char.{is_ascii_digit}
use Rattle.std.specs.List.{AllByRecursion, join_with_byte, list_all}
use Rattle.std.proofs.lemmas.Fmt.{decimal_injective}
use Rattle.std.proofs.lemmas.List.{length-append}
use Rattle.outside.specs.Stream.{GrewByPrefix}
use Rattle.wopi_text.specs.Ids.{id_of}
use Rattle.wopi_text.proofs.Decimals.{digits-decimal}
use Rattle.host_table.specs.Writing.{Gathers, IsGathered, Writes}
use Rattle.host_table.proofs.WritingLemmas.{cut_after, cut_longer, gathered_then, gathers_then}
use Rattle.journal_text.specs.declared.text.Format.{Format}
use Rattle.journal_text.specs.declared.text.Format.TheVariants.{First, Second}
use Rattle.journal_text.specs.declared.text.JournalText.{JournalText}
use Rattle.journal_text.specs.declared.text.Line.{Line}
use Rattle.journal_text.specs.declared.entry.Place.{Place}
use Rattle.journal_text.specs.declared.reading.Reader.{Reader}
use Rattle.journal_text.specs.Entries.{IsPlace, place_words}
use Rattle.journal_text.specs.Lines.{Fits, IsFile, IsLine}
use Rattle.journal_text.specs.Words.{IsRow, act_words, end_words, file_words, first_words, last_words, line_words, words_of}
use Rattle.journal_text.specs.Journals.{AreFiles, AreTimed, IsReadingIn, IsTimed, body_rows, file_text, first_text, last_text, line_text, most_entries, rows_of, text_of}
use Rattle.journal_text.specs.Reader.{HasTimes, IsClocked, time_of, times_after}
use Rattle.journal_text.specs.SoFar.{IsReadBy}
use Rattle.journal_text.proofs.Clocks.{HasTimes-more, own_time}
use Rattle.journal_text.proofs.Fronts.{Row, missing_in}
use Rattle.journal_text.proofs.Outcomes.{all_begin}
use Rattle.journal_text.proofs.Plain.{Lacks-join, feed, file-lacks, first-lacks, last-lacks, line-lacks, space}
use Rattle.journal_text.proofs.Rows.{row_said}
use Rattle.line_text.proofs.Splits.{EachLacks, Lacks, join-parts}

abbrev File : Type 0
File = List ℕ × List ℕ

-- ---- one line

pub not_so : (b : Bool) → (b ≡ true → ⊥) → b ≡ false
not_so true h = absurd (h refl)
not_so false h = refl

-- a number isn't `file`
pub no_number : (n : ℕ) → Fits n → decimal n ≡ codes "file" → ⊥
no_number n h e =
    let digits : list_all is_ascii_digit (codes "file") ≡ true = ap (list_all is_ascii_digit) (sym e) ∙ digits-decimal n h in absurd (cc digits)

-- Of a line with these words this text is left, and these are the shards' times behind it. The last line is left out, since the second
-- form's tells how many entries there are.
abbrev pub IsAgain : List (List ℕ) → List ℕ → List ℕ → List ℕ → Type 0
IsAgain words nows text after =
    ((file : List ℕ × List ℕ) × IsFile file × (words ≡ file_words file) × (text ≡ file_text file) × (after ≡ nows))
    ⊎ (((line : Line) × IsLine First line × IsClocked First nows line × (words ≡ line_words First line) × (text ≡ line_text Second line) × (after ≡ times_after nows line))
    ⊎ ((entries : ℕ) × (words ≡ last_words First entries) × (text ≡ []) × (after ≡ nows)))

-- what was gathered and the rest of a text
cut_here : (a b c : Option (List ℕ)) (p q done piece more whole : List ℕ) → IsGathered a b p q done → done ++ (piece ++ more) ≡ whole
    → GrewByPrefix b c (q ++ piece) → GrewByPrefix a c (p ++ whole)
cut_here a b c p q done piece more whole gathers is cut =
    subst (λ (l : List ℕ). GrewByPrefix a c (p ++ l)) is (cut_after a b c p q done (piece ++ more) gathers (cut_longer b c q piece more cut))

pub by_kind : (G : List ℕ → Type 0) (words : List (List ℕ)) (nows now' piece after : List ℕ)
    → ((file : File) → IsFile file → words ≡ file_words file → G (file_text file) × (now' ≡ nows))
    → ((line : Line) → IsLine First line → IsClocked First nows line → words ≡ line_words First line → G (line_text Second line) × (now' ≡ times_after nows line))
    → ((entries : ℕ) → words ≡ last_words First entries → G [] × (now' ≡ nows)) → IsAgain words nows piece after → G piece × (now' ≡ after)
by_kind G words nows now' piece after f l e (inl (file, is, said, text, same)) =
    let g = f file is said in (subst G (sym text) g.0, g.1 ∙ sym same)
by_kind G words nows now' piece after f l e (inr (inl (line, is, clocked, said, text, same))) =
    let g = l line is clocked said in (subst G (sym text) g.0, g.1 ∙ sym same)
by_kind G words nows now' piece after f l e (inr (inr (entries, said, text, same))) =
    let g = e entries said in (subst G (sym text) g.0, g.1 ∙ sym same)

-- ---- all lines

-- lines of which the second form's text was gathered, and the others
pub record Standing (a b : Option (List ℕ)) (p q left nows : List ℕ) (text : JournalText) : Type 0 where
  pub before : List Line
  pub files : List File
  pub lines : List Line
  pub mark : Option (List ℕ)
  pub files_are : AreFiles mark files
  pub lines_are : AllByRecursion (IsLine First) lines
  pub timed : AreTimed First text.opened before lines
  pub times : HasTimes nows text.opened before
  pub entries : length before + length lines ≡ length text.lines
  pub few : length text.lines ≤ most_entries
  pub left_is : left ≡ text_of (body_rows First (length before) files lines)
  pub done : List ℕ
  pub whole : done ++ text_of (body_rows Second (length before) files lines) ≡ text_of (rows_of Second text)
  pub gathers : IsGathered a b p q done

-- only the last line is to come
pub record Ended (a b : Option (List ℕ)) (p q left : List ℕ) (text : JournalText) : Type 0 where
  pub left_is : left ≡ []
  pub done : List ℕ
  pub whole : done ++ last_text Second (length text.lines) ≡ text_of (rows_of Second text)
  pub gathers : IsGathered a b p q done

abbrev pub GoesOn : Option (List ℕ) → Option (List ℕ) → List ℕ → List ℕ → List ℕ → List ℕ → JournalText → Type 0
GoesOn a b p q left nows text = Standing a b p q left nows text ⊎ Ended a b p q left text

-- the next line, and what follows once it was put
pub record Next (a b : Option (List ℕ)) (p q row behind nows : List ℕ) (text : JournalText) : Type 0 where
  pub piece : List ℕ
  pub after : List ℕ
  pub again : IsAgain (words_of row) nows piece after
  pub on : (c : Option (List ℕ)) (r : List ℕ) → IsGathered b c q r piece → GoesOn a c p r behind after text
  pub cut : (c : Option (List ℕ)) → GrewByPrefix b c (q ++ piece) → GrewByPrefix a c (p ++ text_of (rows_of Second text))

said_here : (left row behind : List ℕ) (word : List ℕ) (words rows : List (List ℕ)) → Row left row behind → EachLacks 32 (word ∷ words) → EachLacks 10 (word ∷ words)
    → left ≡ (join_with_byte 32 (word ∷ words) ++ 10 ∷ []) ++ text_of rows → (words_of row ≡ word ∷ words) × (behind ≡ text_of rows)
said_here left row behind word words rows cut spaces feeds is = row_said row behind (text_of rows) word words cut.line spaces feeds (sym cut.cut ∙ is)

clocked_here : (opened : ℕ) (before : List Line) (line : Line) (nows : List ℕ) → HasTimes nows opened before → IsLine First line → IsTimed First opened before line
    → IsClocked First nows line
clocked_here opened before line nows times is timed =
    timed ∙ own_time opened before line ∙ ap (λ (n : ℕ). max n line.moment) (sym (times.times line.shard is.shard))

next : (a b : Option (List ℕ)) (p q left row behind nows : List ℕ) (text : JournalText) (before : List Line) (files : List File) (lines : List Line) (mark : Option (List ℕ)) (done : List ℕ)
    → AreFiles mark files → AllByRecursion (IsLine First) lines → AreTimed First text.opened before lines → HasTimes nows text.opened before
    → length before + length lines ≡ length text.lines → length text.lines ≤ most_entries → left ≡ text_of (body_rows First (length before) files lines)
    → done ++ text_of (body_rows Second (length before) files lines) ≡ text_of (rows_of Second text) → IsGathered a b p q done → Row left row behind
    → Next a b p q row behind nows text
next a b p q left row behind nows text before [] [] mark done are each timed times entries few is whole gathers cut =
    let all : length before ≡ length text.lines = omega (arith, entries) in
    let said = said_here left row behind (codes "end") [] [] cut (last-lacks First 32 0 space (omega arith)) (last-lacks First 10 0 feed (omega arith)) is in
    record {
      piece = [];
      after = nows;
      again = inr (inr (0, said.0, refl, refl));
      on = λ c r more. inr (record {
        left_is = said.1;
        done = done ++ [];
        whole = ap (λ (l : List ℕ). l ++ last_text Second (length text.lines)) (append-nil done)
            ∙ ap (λ (n : ℕ). done ++ last_text Second n) (sym all)
            ∙ ap (λ (l : List ℕ). done ++ l) (sym (append-nil (last_text Second (length before)))) ∙ whole;
        gathers = gathered_then a b c p q r done [] gathers more;
      });
      cut = λ c front. cut_here a b c p q done [] (text_of (body_rows Second (length before) [] [])) _ gathers whole front;
    }
next a b p q left row behind nows text before [] (line ∷ lines) mark done are each timed times entries few is whole gathers cut =
    let form = each.0 in
    let clocked = clocked_here text.opened before line nows times form timed.0 in
    let said = said_here left row behind _ _ (body_rows First (suc (length before)) [] lines) cut (line-lacks First 32 line space form) (line-lacks First 10 line feed form) is in
    let longer : length (before ++ line ∷ []) ≡ suc (length before) = (let len = length-append before (line ∷ []) in omega (arith, len)) in
    record {
      piece = line_text Second line;
      after = times_after nows line;
      again = inr (inl (line, form, clocked, said.0, refl, refl));
      on = λ c r more. inl (record {
        before = before ++ line ∷ [];
        files = [];
        lines = lines;
        mark = mark;
        files_are = tt;
        lines_are = each.1;
        timed = timed.1;
        times = HasTimes-more nows text.opened before line (time_of nows line) times form.shard form.moment refl;
        entries = omega (arith, longer, entries);
        few = few;
        left_is = said.1 ∙ ap (λ (n : ℕ). text_of (body_rows First n [] lines)) (sym longer);
        done = done ++ line_text Second line;
        whole = append_assoc done (line_text Second line) (text_of (body_rows Second (length (before ++ line ∷ [])) [] lines))
            ∙ ap (λ (n : ℕ). done ++ (line_text Second line ++ text_of (body_rows Second n [] lines))) longer ∙ whole;
        gathers = gathered_then a b c p q r done (line_text Second line) gathers more;
      });
      cut = λ c front. cut_here a b c p q done (line_text Second line) (text_of (body_rows Second (suc (length before)) [] lines)) _ gathers whole front;
    }
next a b p q left row behind nows text before (file ∷ files) lines mark done are each timed times entries few is whole gathers cut =
    let form = are.0 in
    let said = said_here left row behind _ _ (body_rows First (length before) files lines) cut (file-lacks 32 file space form) (file-lacks 10 file feed form) is in
    record {
      piece = file_text file;
      after = nows;
      again = inl (file, form, said.0, refl, refl);
      on = λ c r more. inl (record {
        before = before;
        files = files;
        lines = lines;
        mark = Some file.0;
        files_are = are.2;
        lines_are = each;
        timed = timed;
        times = times;
        entries = entries;
        few = few;
        left_is = said.1;
        done = done ++ file_text file;
        whole = append_assoc done (file_text file) (text_of (body_rows Second (length before) files lines)) ∙ whole;
        gathers = gathered_then a b c p q r done (file_text file) gathers more;
      });
      cut = λ c front. cut_here a b c p q done (file_text file) (text_of (body_rows Second (length before) files lines)) _ gathers whole front;
    }

pub next_of : (a b : Option (List ℕ)) (p q left row behind nows : List ℕ) (text : JournalText) → GoesOn a b p q left nows text → Row left row behind
    → Next a b p q row behind nows text
next_of a b p q left row behind nows text (inl s) cut =
    next a b p q left row behind nows text s.before s.files s.lines s.mark s.done s.files_are s.lines_are s.timed s.times s.entries s.few s.left_is s.whole s.gathers cut
next_of a b p q left row behind nows text (inr e) cut =
    let len = ap length (sym e.left_is ∙ cut.cut) ∙ length-append row (10 ∷ behind) in absurd (omega (arith, len))

-- the first line was cut
pub first_cut : (a b : Option (List ℕ)) (p bytes : List ℕ) (reader : Reader) (text : JournalText) → IsReadBy bytes reader text
    → GrewByPrefix a b (p ++ first_text Second reader.opened reader.first) → GrewByPrefix a b (p ++ text_of (rows_of Second text))
first_cut a b p bytes reader text read cut =
    let h = read.reader_is in
    let own : GrewByPrefix a b (p ++ first_text Second text.opened text.first) =
    subst (λ (n : ℕ). GrewByPrefix a b (p ++ first_text Second n text.first)) (sym h.opened)
    (subst (λ (n : ℕ). GrewByPrefix a b (p ++ first_text Second reader.opened n)) (sym h.first) cut)
    in
    cut_longer a b p (first_text Second text.opened text.first) (text_of (body_rows Second 0 text.files text.lines)) own

-- the first line was put
pub again_begun : (a b : Option (List ℕ)) (p q bytes rest nows : List ℕ) (reader : Reader) (text : JournalText) → IsReadBy bytes reader text → reader.form ≡ First
    → IsGathered a b p q (first_text Second reader.opened reader.first) → HasTimes nows reader.opened []
    → ((row behind : List ℕ) → IsRow row → bytes ≡ row ++ 10 ∷ behind → rest ≡ behind) → GoesOn a b p q rest nows text
unfolding Lacks
again_begun a b p q bytes rest nows reader text read form gathers times behind =
    let reading : IsReadingIn First bytes text = subst (λ (f : Format). IsReadingIn f bytes text) form read.reading in
    let within = reading.0 in
    let h = read.reader_is in
    let words = first_words First text.opened text.first in
    let cut : bytes ≡ join_with_byte 32 words ++ 10 ∷ text_of (body_rows First 0 text.files text.lines) =
    reading.1 ∙ append_assoc (join_with_byte 32 words) (10 ∷ []) (text_of (body_rows First 0 text.files text.lines))
    in
    inl (record {
      before = [];
      files = text.files;
      lines = text.lines;
      mark = None;
      files_are = within.files;
      lines_are = within.lines;
      timed = within.timed;
      times = subst (λ (n : ℕ). HasTimes nows n []) (sym h.opened) times;
      entries = omega arith;
      few = within.few;
      left_is = behind (join_with_byte 32 words) _ (Lacks-join 10 32 words refl (first-lacks First 10 text.opened text.first feed within.opening)) cut;
      done = first_text Second text.opened text.first;
      whole = refl;
      gathers = subst (λ (n : ℕ). IsGathered a b p q (first_text Second n text.first)) (sym h.opened)
          (subst (λ (n : ℕ). IsGathered a b p q (first_text Second reader.opened n)) (sym h.first) gathers);
    })

-- no line is left
pub again_ended : (a b : Option (List ℕ)) (p q left nows : List ℕ) (text : JournalText) → GoesOn a b p q left nows text → IsRow left → Ended a b p q left text
again_ended a b p q left nows text (inl s) none =
    absurd (missing_in First (length s.before) None left none s.files s.lines (all_begin (body_rows First (length s.before) s.files s.lines) left s.left_is))
again_ended a b p q left nows text (inr e) none = e

pub again_whole : {T E : Type 0} (a b c : Option (List ℕ)) (p q r left : List ℕ) (result : Result T E) (text : JournalText) → Ended a b p q left text
    → Gathers b c q r result (last_text Second (length text.lines)) → Gathers a c p r result (text_of (rows_of Second text))
again_whole a b c p q r left result text e last =
    subst (Gathers a c p r result) e.whole (gathers_then a b c p q r result e.done (last_text Second (length text.lines)) e.gathers last)

-- bytes of the second form were written
pub written_whole : {T E : Type 0} (a b : Option (List ℕ)) (bytes : List ℕ) (reader : Reader) (text : JournalText) (result : Result T E) → IsReadBy bytes reader text
    → reader.form ≡ Second → OnOk result (Appends a b bytes) → OnErr result (GrewByPrefix a b bytes) → Writes a b result (text_of (rows_of Second text))
written_whole a b bytes reader text (Ok x) read form ok err =
    subst (Appends a b) (read.reading.1 ∙ ap (λ (f : Format). text_of (rows_of f text)) form) ok
written_whole a b bytes reader text (Err e) read form ok err =
    subst (GrewByPrefix a b) (read.reading.1 ∙ ap (λ (f : Format). text_of (rows_of f text)) form) err

-- ---- the line of an entry

abbrev pub five : List ℕ → List ℕ → List ℕ → List ℕ → List ℕ → List ℕ → List ℕ
five a b c d e rest = a ++ 32 ∷ (b ++ 32 ∷ (c ++ 32 ∷ (d ++ 32 ∷ (e ++ 32 ∷ rest))))

five_more : (a b c d e rest end : List ℕ) → five a b c d e rest ++ end ≡ five a b c d e (rest ++ end)
five_more a b c d e rest end = grind (arith, append_assoc)

pub record EntryAgain (line : Line) (place : Place) (rest : List ℕ) : Type 0 where
  pub shard : place.shard ≡ line.shard
  pub moment : place.moment ≡ line.moment
  pub text : (now : ℕ) → now ≡ line.now
      → five (decimal place.stamp) (decimal place.shard) (decimal place.pass) (decimal place.moment) (decimal now) (rest ++ 10 ∷ []) ≡ line_text Second line

pub entry_again : (line : Line) (place : Place) (row rest : List ℕ) → IsLine First line → IsPlace place → words_of row ≡ place_words place ++ words_of rest
    → words_of row ≡ line_words First line → EntryAgain line place rest
entry_again line place row rest h k read said =
    let both : place_words place ++ words_of rest ≡ line_words First line = sym read ∙ said in
    let stamp : decimal place.stamp ≡ decimal line.stamp = ap (λ l. get_or l 0 []) both in
    let shard : decimal place.shard ≡ decimal line.shard = ap (λ l. get_or l 1 []) both in
    let pass : decimal place.pass ≡ decimal line.pass = ap (λ l. get_or l 2 []) both in
    let moment : decimal place.moment ≡ decimal line.moment = ap (λ l. get_or l 3 []) both in
    let words : List (List ℕ) = id_of line.name ∷ (act_words line.act ++ end_words line) in
    let there : words_of rest ≡ words = ap (drop 4) both in
    let tail : rest ≡ join_with_byte 32 words = join-parts 32 rest words there in
    let s = h.shard in
    let t = k.shard in
    let m = h.moment in
    let n = k.moment in
    record {
      shard = decimal_injective place.shard line.shard (omega (arith, t)) (omega (arith, s)) shard;
      moment = decimal_injective place.moment line.moment (omega (arith, n)) (omega (arith, m)) moment;
      text = λ now is.
          sym (five_more (decimal place.stamp) (decimal place.shard) (decimal place.pass) (decimal place.moment) (decimal now) rest (10 ∷ []))
          ∙ (λ i. five (stamp i) (shard i) (pass i) (moment i) (decimal (is i)) (tail i) ++ 10 ∷ []);
    }
