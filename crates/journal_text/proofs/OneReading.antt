-- A journal's text reads in one way.
use Rattle.std.proofs.Common.{◌≡◌, ℕ, suc, ◌+◌, ◌<◌, ◌≤◌, List, [], ◌∷◌, ◌++◌, length, get_or, Option, None, Some, refl, sym, ap, ◌∙◌, subst, arith, append_assoc}
use Rattle.std.specs.Prelude.{max}
use Rattle.std.specs.List.{AllByRecursion, join_with_byte}
use Rattle.std.proofs.lemmas.Fmt.{decimal_injective}
use Rattle.wopi_text.proofs.IdLemmas.{id_of-injective}
use Rattle.journal_text.specs.declared.text.Format.{Format}
use Rattle.journal_text.specs.declared.text.Format.TheVariants.{First, Second}
use Rattle.journal_text.specs.declared.text.JournalText.{JournalText}
use Rattle.journal_text.specs.declared.text.Line.{Line}
use Rattle.journal_text.specs.Lines.{AreSized, IsLine, IsOpening, told_size}
use Rattle.journal_text.specs.Words.{act_words, end_words, file_words, first_words, last_words, line_words}
use Rattle.journal_text.specs.Journals.{AreFiles, AreTimed, IsReading, IsTimed, IsWithin, body_rows, most_entries, now_in, row_text, rows_of, text_of}
use Rattle.journal_text.proofs.Asking.{one_act}
use Rattle.journal_text.proofs.Clocks.{own_time}
use Rattle.journal_text.proofs.EntryWords.{behind_head, head_of, line_parts, same_told, small}
use Rattle.journal_text.proofs.Fronts.{same_form}
use Rattle.journal_text.proofs.RowKinds.{file_no_line, last_no_file, last_no_line}
use Rattle.journal_text.proofs.Plain.{Lacks-join, feed, file-lacks, first-lacks, last-lacks, line-lacks, space}
use Rattle.journal_text.proofs.Rows.{row_said}
use Rattle.line_text.proofs.Splits.{EachLacks, Lacks, parts-join}
use Rattle.journal_text.proofs.Uniqueness.{same_act, same_contents, same_file, same_optional_lock, same_reason, same_token, same_version}

-- ---- one entry

same_now : (form : Format) (opened : ℕ) (before : List Line) (line other : Line) → IsTimed form opened before line → IsTimed form opened before other
    → line.shard ≡ other.shard → line.moment ≡ other.moment → form ≡ First → line.now ≡ other.now
same_now Second opened before line other h k shard moment e = cc e
same_now First opened before line other h k shard moment e =
    h ∙ own_time opened before line ∙ ap (λ (s : ℕ). max (now_in opened s before) line.moment) shard ∙ ap (λ (m : ℕ). max (now_in opened other.shard before) m) moment
    ∙ sym (own_time opened before other) ∙ sym k

now_there : (form : Format) (line other : Line) → IsLine form line → IsLine form other → (form ≡ First → line.now ≡ other.now) → line_words form line ≡ line_words form other
    → line.now ≡ other.now
now_there First line other h k given e = given refl
now_there Second line other h k given e =
    let a = h.now in let b = k.now in decimal_injective line.now other.now (omega (arith, a)) (omega (arith, b)) (ap (λ l. get_or l 4 []) e)

name_there : (form : Format) (line other : Line) → IsLine form line → IsLine form other → line_words form line ≡ line_words form other → line.name ≡ other.name
name_there First line other h k e = id_of-injective line.name other.name h.name k.name (ap (λ l. get_or l 4 []) e)
name_there Second line other h k e = id_of-injective line.name other.name h.name k.name (ap (λ l. get_or l 5 []) e)

shard_there : (form : Format) (line other : Line) → IsLine form line → IsLine form other → line_words form line ≡ line_words form other → line.shard ≡ other.shard
shard_there form line other h k e =
    let a = h.shard in let b = k.shard in decimal_injective line.shard other.shard (omega (arith, a)) (omega (arith, b)) (ap (λ l. get_or l 1 []) e)

moment_there : (form : Format) (line other : Line) → IsLine form line → IsLine form other → line_words form line ≡ line_words form other → line.moment ≡ other.moment
moment_there form line other h k e =
    let a = h.moment in let b = k.moment in decimal_injective line.moment other.moment (omega (arith, a)) (omega (arith, b)) (ap (λ l. get_or l 3 []) e)

same_line : (form : Format) (line other : Line) → IsLine form line → IsLine form other → (form ≡ First → line.now ≡ other.now) → line_words form line ≡ line_words form other
    → line ≡ other
same_line form line other h k given e =
    let stamp = decimal_injective line.stamp other.stamp h.stamp k.stamp (ap (λ l. get_or l 0 []) e) in
    let shard = shard_there form line other h k e in
    let p = h.pass in
    let q = k.pass in
    let pass = decimal_injective line.pass other.pass (omega (arith, p)) (omega (arith, q)) (ap (λ l. get_or l 2 []) e) in
    let moment = moment_there form line other h k e in
    let now = now_there form line other h k given e in
    let name = name_there form line other h k e in
    let rest : act_words line.act ++ end_words line ≡ act_words other.act ++ end_words other =
    behind_head form (line_words form line) _ _ (head_of line) (head_of other) (line_parts form line) (e ∙ line_parts form other)
    in
    let acts = one_act (act_words line.act ++ end_words line) (end_words line) (end_words other) line.act other.act refl rest in
    let asked = same_act line.act other.act h.asked k.asked acts.0 in
    let token = same_token line.token other.token h.token k.token (ap (λ l. get_or l 0 []) acts.1) in
    let s = small line.status h.status in
    let t = small other.status k.status in
    let status = decimal_injective line.status other.status (omega (arith, s)) (omega (arith, t)) (ap (λ l. get_or l 1 []) acts.1) in
    let lock = same_optional_lock line.lock other.lock h.lock k.lock (ap (λ l. get_or l 2 []) acts.1) in
    let why = same_reason line.reason other.reason (ap (λ l. get_or l 3 []) acts.1) in
    let version = same_version line.version other.version h.version k.version (ap (λ l. get_or l 4 []) acts.1) in
    let size = same_told line.act other.act line.status other.status h.asked k.asked acts.0 h.status k.status (ap (λ l. get_or l 1 []) acts.1) in
    let sized : AreSized (told_size line.act line.status) other.contents = subst (λ (n : Option ℕ). AreSized n other.contents) (sym size) k.contents in
    let contents = same_contents (told_size line.act line.status) line.contents other.contents h.contents sized (ap (λ l. get_or l 5 []) acts.1) in
    λ i. record {
      stamp = stamp i;
      shard = shard i;
      pass = pass i;
      moment = moment i;
      now = now i;
      name = name i;
      act = asked i;
      token = token i;
      status = status i;
      lock = lock i;
      reason = why i;
      version = version i;
      contents = contents i;
    }

-- ---- one line after another

pub one_row : (words other : List (List ℕ)) (rest more : List ℕ) → 0 < length words → 0 < length other → EachLacks 32 words → EachLacks 10 words
    → EachLacks 32 other → EachLacks 10 other → row_text words ++ rest ≡ row_text other ++ more → (words ≡ other) × (rest ≡ more)
unfolding Lacks
one_row [] other rest more some most a b c d e = absurd (omega (arith, some))
one_row (word ∷ words) [] rest more some most a b c d e = absurd (omega (arith, most))
one_row (word ∷ words) (next ∷ other) rest more some most a b c d e =
    let line : List ℕ = join_with_byte 32 (word ∷ words) in
    let said = row_said line rest more next other (Lacks-join 10 32 (word ∷ words) refl b) c d (sym (append_assoc line (10 ∷ []) rest) ∙ e) in
    (sym (parts-join 32 word words a) ∙ said.0, said.1)

last_some : (form : Format) (entries : ℕ) → 0 < length (last_words form entries)
last_some First entries = omega arith
last_some Second entries = omega arith

first_some : (form : Format) (opened first : ℕ) → 0 < length (first_words form opened first)
first_some First opened first = omega arith
first_some Second opened first = omega arith

abbrev File : Type 0
File = List ℕ × List ℕ

-- ---- the lines behind the first

record Same (files other : List File) (lines later : List Line) : Type 0 where
  pub files_are : files ≡ other
  pub lines_are : lines ≡ later

same_body : (form : Format) (opened before : ℕ) (done : List Line) (last mark : Option (List ℕ)) (files : List File) (lines : List Line) (other : List File) (later : List Line)
    → AreFiles last files → AreFiles mark other → AllByRecursion (IsLine form) lines → AllByRecursion (IsLine form) later → AreTimed form opened done lines → AreTimed form opened done later
    → before + length lines ≤ most_entries → before + length later ≤ most_entries
    → text_of (body_rows form before files lines) ≡ text_of (body_rows form before other later) → Same files other lines later
same_body form opened before done last mark [] [] [] [] f g l m t u a b e = record { files_are = refl; lines_are = refl }
same_body form opened before done last mark [] [] [] (line ∷ later) f g l m t u a b e =
    let both = one_row (last_words form before) (line_words form line) [] (text_of (body_rows form (suc before) [] later)) (last_some form before) (omega arith)
    (last-lacks form 32 before space (omega (arith, a))) (last-lacks form 10 before feed (omega (arith, a))) (line-lacks form 32 line space m.0) (line-lacks form 10 line feed m.0) e in
    absurd (last_no_line form before line both.0)
same_body form opened before done last mark [] [] (file ∷ other) later f g l m t u a b e =
    let both = one_row (last_words form before) (file_words file) [] (text_of (body_rows form before other later)) (last_some form before) (omega arith)
    (last-lacks form 32 before space (omega (arith, a))) (last-lacks form 10 before feed (omega (arith, a))) (file-lacks 32 file space g.0) (file-lacks 10 file feed g.0) e in
    absurd (last_no_file form before file both.0)
same_body form opened before done last mark [] (line ∷ lines) [] [] f g l m t u a b e =
    let both = one_row (last_words form before) (line_words form line) [] (text_of (body_rows form (suc before) [] lines)) (last_some form before) (omega arith)
    (last-lacks form 32 before space (omega (arith, a))) (last-lacks form 10 before feed (omega (arith, a))) (line-lacks form 32 line space l.0) (line-lacks form 10 line feed l.0) (sym e) in
    absurd (last_no_line form before line both.0)
same_body form opened before done last mark [] (line ∷ lines) [] (next ∷ later) f g l m t u a b e =
    let both = one_row (line_words form line) (line_words form next) (text_of (body_rows form (suc before) [] lines)) (text_of (body_rows form (suc before) [] later)) (omega arith) (omega arith)
    (line-lacks form 32 line space l.0) (line-lacks form 10 line feed l.0) (line-lacks form 32 next space m.0) (line-lacks form 10 next feed m.0) e in
    let now = same_now form opened done line next t.0 u.0 (shard_there form line next l.0 m.0 both.0) (moment_there form line next l.0 m.0 both.0) in
    let same = same_line form line next l.0 m.0 now both.0 in
    let timed : AreTimed form opened (done ++ line ∷ []) later = subst (λ (o : Line). AreTimed form opened (done ++ o ∷ []) later) (sym same) u.1 in
    let rest = same_body form opened (suc before) (done ++ line ∷ []) last mark [] lines [] later tt tt l.1 m.1 t.1 timed (omega (arith, a)) (omega (arith, b)) both.1 in
    record { files_are = refl; lines_are = ap (λ (o : Line). o ∷ lines) same ∙ ap (λ (os : List Line). next ∷ os) rest.lines_are }
same_body form opened before done last mark [] (line ∷ lines) (file ∷ other) later f g l m t u a b e =
    let both = one_row (file_words file) (line_words form line) (text_of (body_rows form before other later)) (text_of (body_rows form (suc before) [] lines)) (omega arith) (omega arith)
    (file-lacks 32 file space g.0) (file-lacks 10 file feed g.0) (line-lacks form 32 line space l.0) (line-lacks form 10 line feed l.0) (sym e) in
    absurd (file_no_line form file line both.0)
same_body form opened before done last mark (file ∷ files) lines [] [] f g l m t u a b e =
    let both = one_row (last_words form before) (file_words file) [] (text_of (body_rows form before files lines)) (last_some form before) (omega arith)
    (last-lacks form 32 before space (omega (arith, a))) (last-lacks form 10 before feed (omega (arith, a))) (file-lacks 32 file space f.0) (file-lacks 10 file feed f.0) (sym e) in
    absurd (last_no_file form before file both.0)
same_body form opened before done last mark (file ∷ files) lines [] (line ∷ later) f g l m t u a b e =
    let both = one_row (file_words file) (line_words form line) (text_of (body_rows form before files lines)) (text_of (body_rows form (suc before) [] later)) (omega arith) (omega arith)
    (file-lacks 32 file space f.0) (file-lacks 10 file feed f.0) (line-lacks form 32 line space m.0) (line-lacks form 10 line feed m.0) e in
    absurd (file_no_line form file line both.0)
same_body form opened before done last mark (file ∷ files) lines (next ∷ other) later f g l m t u a b e =
    let both = one_row (file_words file) (file_words next) (text_of (body_rows form before files lines)) (text_of (body_rows form before other later)) (omega arith) (omega arith)
    (file-lacks 32 file space f.0) (file-lacks 10 file feed f.0) (file-lacks 32 next space g.0) (file-lacks 10 next feed g.0) e in
    let same = same_file file next f.0 g.0 both.0 in
    let rest = same_body form opened before done (Some file.0) (Some next.0) files lines other later f.2 g.2 l m t u a b both.1 in
    record { files_are = ap (λ (o : File). o ∷ files) same ∙ ap (λ (os : List File). next ∷ os) rest.files_are; lines_are = rest.lines_are }

-- ---- the first line

same_opened : (form : Format) (opened first later version : ℕ) → IsOpening form opened first → IsOpening form later version
    → first_words form opened first ≡ first_words form later version → (opened ≡ later) × (first ≡ version)
same_opened First opened first later version h k e =
    let a = h.0 in let b = k.0 in (decimal_injective opened later (omega (arith, a)) (omega (arith, b)) (ap (λ l. get_or l 4 []) e), h.1 ∙ sym k.1)
same_opened Second opened first later version h k e =
    let a = h.0 in
    let b = k.0 in
    let c = h.1.1 in
    let d = k.1.1 in (
      decimal_injective opened later (omega (arith, a)) (omega (arith, b)) (ap (λ l. get_or l 4 []) e),
      decimal_injective first version (omega (arith, c)) (omega (arith, d)) (ap (λ l. get_or l 6 []) e),
    )

same_whole : (form : Format) (text other : JournalText) → IsWithin form text → IsWithin form other → text_of (rows_of form text) ≡ text_of (rows_of form other) → text ≡ other
same_whole form text other h k e =
    let both = one_row (first_words form text.opened text.first) (first_words form other.opened other.first) (text_of (body_rows form 0 text.files text.lines))
    (text_of (body_rows form 0 other.files other.lines)) (first_some form text.opened text.first) (first_some form other.opened other.first)
    (first-lacks form 32 text.opened text.first space h.opening) (first-lacks form 10 text.opened text.first feed h.opening)
    (first-lacks form 32 other.opened other.first space k.opening) (first-lacks form 10 other.opened other.first feed k.opening) e in
    let head = same_opened form text.opened text.first other.opened other.first h.opening k.opening both.0 in
    let timed : AreTimed form text.opened [] other.lines = subst (λ (n : ℕ). AreTimed form n [] other.lines) (sym head.0) k.timed in
    let few = h.few in
    let less = k.few in
    let body = same_body form text.opened 0 [] None None text.files text.lines other.files other.lines h.files k.files h.lines k.lines h.timed timed (omega (arith, few)) (omega (arith, less)) both.1 in
    λ i. record { opened = head.0 i; first = head.1 i; files = body.files_are i; lines = body.lines_are i }

one_form : (form form' : Format) (text other : JournalText) → IsWithin form text → IsWithin form' other → text_of (rows_of form text) ≡ text_of (rows_of form' other) → form' ≡ form
one_form form form' text other h k e =
    let both = one_row (first_words form text.opened text.first) (first_words form' other.opened other.first) (text_of (body_rows form 0 text.files text.lines))
    (text_of (body_rows form' 0 other.files other.lines)) (first_some form text.opened text.first) (first_some form' other.opened other.first)
    (first-lacks form 32 text.opened text.first space h.opening) (first-lacks form 10 text.opened text.first feed h.opening)
    (first-lacks form' 32 other.opened other.first space k.opening) (first-lacks form' 10 other.opened other.first feed k.opening) e in
    same_form form form' text.opened text.first other.opened other.first both.0

-- bytes read as one text at most
pub one_reading : (bytes : List ℕ) (text other : JournalText) → IsReading bytes text → IsReading bytes other → text ≡ other
one_reading bytes text other (form, (h, is)) (form', (k, was)) =
    let both = sym is ∙ was in
    let same = one_form form form' text other h k both in
    same_whole form text other h (subst (λ (f : Format). IsWithin f other) same k) (both ∙ ap (λ (f : Format). text_of (rows_of f other)) same)
