-- Contents that are found while a journal comes.
use Rattle.std.proofs.Common.{◌≡◌, ℕ, Bool, true, false, cond, List, [], ◌∷◌, ◌++◌, Option, None, Some, length, refl, sym, ap, ◌∙◌, subst, arith, inl, inr, append_assoc, true≢false}
use Rattle.std.specs.Prelude.{is_some}
use Rattle.std.specs.Str.{bytes_eq}
use Rattle.std.specs.List.{AllByRecursion}
use Rattle.std.specs.Cmp.Lexicographic.{bytes_decides}
use Rattle.std.proofs.lemmas.List.{length-append}
use Rattle.std.proofs.lemmas.Slice.Eq.{bytes_eq-Decides}
use Rattle.host_core.specs.Opening.{opened_contents}
use Rattle.host_table.proofs.WritingLemmas.{all_append}
use Rattle.journal_text.specs.declared.text.JournalText.{JournalText}
use Rattle.journal_text.specs.declared.text.Line.{Line}
use Rattle.journal_text.specs.Reader.{begun_text, with_file, with_line}
use Rattle.journal_audit.specs.Contents.{GivesNone, HadContents, IsGiven, StoodThere}
use Rattle.journal_text.specs.Coming.{IsKeptOf}
use Rattle.journal_audit.specs.declared.sought.Sought.{Sought}
use Rattle.journal_audit.specs.Streams.{IsFound, IsFoundIn, Seeks, SeeksIn}
use Rattle.journal_audit.proofs.Auditing.{contents-push}
use Rattle.journal_audit.proofs.Givings.{of_all}

abbrev pushed : List ℕ × List ℕ → List ℕ → Option (List ℕ) → Option (List ℕ)
pushed file name old = elim old [ None ↦ cond (bytes_eq file.0 name) (Some file.1) None | Some contents ↦ Some contents ]

module _ (name : List ℕ) (version : ℕ) where
  no_given : (lines : List Line) (contents : List ℕ) → lines ≡ [] → IsGiven name version lines contents → ⊥
  no_given lines contents none given =
      let e : given.before ++ given.line ∷ given.after ≡ [] = sym given.lines_are ∙ none in
      let n = length-append given.before (given.line ∷ given.after) in
      let m = ap length e in
      omega (arith, n, m)

  pub begun_seeks : (opened first : ℕ) (found : Option (List ℕ)) → found ≡ None → SeeksIn name version (begun_text opened first) found
  begun_seeks opened first None none = (λ contents there. absurd (cc there.1), tt)
  begun_seeks opened first (Some contents) none = absurd (cc none)

  -- ---- opening files

  pub file_after : (text : JournalText) (file : List ℕ × List ℕ) (found : Option (List ℕ)) → text.lines ≡ [] → is_some found ≡ true → SeeksIn name version text found
      → SeeksIn name version (with_file text file) found
  file_after text file None none some seeks = absurd (cc some)
  file_after text file (Some contents) none some (inl there) = inl (there.0, contents-push text.files file name ∙ ap (pushed file name) there.1)
  file_after text file (Some contents) none some (inr given) = absurd (no_given text.lines contents none given.1)

  -- a file of that name stood there in no line so far
  not_there : (text : JournalText) (found : Option (List ℕ)) → version ≡ text.first → opened_contents text.files name ≡ found
      → ((contents : List ℕ) → StoodThere text name version contents → ⊥) → found ≡ None
  not_there text None is found none = refl
  not_there text (Some contents) is found none = absurd (none contents (is, found))

  pub file_of_version : (text : JournalText) (file : List ℕ × List ℕ) (found : Option (List ℕ)) → is_some found ≡ false → (version ≡ text.first → ⊥) → SeeksIn name version text found
      → SeeksIn name version (with_file text file) found
  file_of_version text file None none other seeks = (λ contents there. other there.0, seeks.1)
  file_of_version text file (Some contents) none other seeks = absurd (cc none)

  pub file_of_name : (text : JournalText) (file : List ℕ × List ℕ) (found : Option (List ℕ)) → is_some found ≡ false → bytes_eq file.0 name ≡ false → version ≡ text.first
      → SeeksIn name version text found → SeeksIn name version (with_file text file) found
  file_of_name text file None none other is seeks = (
    λ contents there.
        let was = not_there text (opened_contents text.files name) is refl seeks.0 in
        let now : opened_contents (text.files ++ file ∷ []) name ≡ None =
        contents-push text.files file name ∙ ap (pushed file name) was ∙ ap (λ (b : Bool). cond b (Some file.1) None) other in
        let said : Some contents ≡ None = sym there.1 ∙ now in
        absurd (cc said),
    seeks.1,
  )
  file_of_name text file (Some contents) none other is seeks = absurd (cc none)

  pub file_found : (text : JournalText) (file : List ℕ × List ℕ) (found : Option (List ℕ)) → is_some found ≡ false → bytes_eq file.0 name ≡ true → version ≡ text.first
      → SeeksIn name version text found → HadContents (with_file text file) name version file.1
  file_found text file None none same is seeks =
      let was = not_there text (opened_contents text.files name) is refl seeks.0 in
      inl (is, contents-push text.files file name ∙ ap (pushed file name) was ∙ ap (λ (b : Bool). cond b (Some file.1) None) same)
  file_found text file (Some contents) none same is seeks = absurd (cc none)

  -- ---- entries

  pub line_after : (text : JournalText) (line : Line) (found : Option (List ℕ)) → is_some found ≡ true → SeeksIn name version text found
      → SeeksIn name version (with_line text line) found
  line_after text line None some seeks = absurd (cc some)
  line_after text line (Some contents) some (inl there) = inl there
  line_after text line (Some contents) some (inr (none, given)) = inr (
    none,
    record {
      before = given.before;
      line = given.line;
      after = given.after ++ line ∷ [];
      lines_are = ap (λ (l : List Line). l ++ line ∷ []) given.lines_are ∙ append_assoc given.before (given.line ∷ given.after) (line ∷ []);
      first = given.first;
      gives = given.gives;
    },
  )

  pub line_of_other : (text : JournalText) (line : Line) (found : Option (List ℕ)) → is_some found ≡ false → GivesNone name version line → SeeksIn name version text found
      → SeeksIn name version (with_line text line) found
  line_of_other text line None none other seeks = (seeks.0, all_append (GivesNone name version) text.lines (line ∷ []) seeks.1 (other, tt))
  line_of_other text line (Some contents) none other seeks = absurd (cc none)

  line_gives : (text : JournalText) (line : Line) (contents : Option (List ℕ)) → line.contents ≡ contents → line.version ≡ Some version → line.name ≡ name → SeeksIn name version text None
      → SeeksIn name version (with_line text line) contents
  line_gives text line None told at of seeks =
      (seeks.0, all_append (GivesNone name version) text.lines (line ∷ []) seeks.1 (λ contents gives. let e : None ≡ Some contents = sym told ∙ gives.contents_are in absurd (cc e), tt))
  line_gives text line (Some contents) told at of seeks = inr (
    seeks.0,
    record {
      before = text.lines;
      line = line;
      after = [];
      lines_are = refl;
      first = seeks.1;
      gives = record { name_is = of; version_is = at; contents_are = told };
    },
  )

  pub line_found : (text : JournalText) (line : Line) (found : Option (List ℕ)) → is_some found ≡ false → line.version ≡ Some version → bytes_eq line.name name ≡ true
      → SeeksIn name version text found → SeeksIn name version (with_line text line) line.contents
  line_found text line None none at own seeks = line_gives text line line.contents refl at ((bytes_decides line.name name).0 own) seeks
  line_found text line (Some contents) none at own seeks = absurd (cc none)

  pub other_name : (line : Line) → bytes_eq line.name name ≡ false → GivesNone name version line
  other_name line other = λ contents gives. absurd (true≢false (sym ((bytes_eq-Decides line.name name).1 gives.name_is) ∙ other))

  -- ---- all lines

  pub sought_found : (text : JournalText) (found : Option (List ℕ)) → SeeksIn name version text found → IsFound name version text found
  sought_found text (Some contents) seeks = seeks
  sought_found text None seeks = λ contents had. elim had [
    | inl there ↦ seeks.0 contents there
    | inr given ↦
        let none = subst (AllByRecursion (GivesNone name version)) given.1.lines_are seeks.1 in
        of_all (GivesNone name version) given.1.before given.1.line given.1.after none contents given.1.gives
  ]

pub found_in : (left left' : Option (List ℕ)) (sought : Sought) (entries : ℕ) (name : List ℕ) (version : ℕ) → bytes_eq sought.name name ≡ true → sought.version ≡ version
    → IsKeptOf Seeks left left' sought entries → IsFoundIn left left' name version sought.found
found_in left left' sought entries name version own at so =
    let found = sought_found sought.name sought.version so.text sought.found so.kept.found in
    let P : List ℕ × ℕ → Type 0 = λ p. IsFound p.0 p.1 so.text sought.found in
    record { text = so.text; read = so.read; found_is = subst P (λ i. ((bytes_decides sought.name name).0 own i, at i)) found }
