-- Lines that gave a file its versions.
use Rattle.std.proofs.Common.{◌≡◌, ℕ, ◌+◌, ◌<◌, ◌≤◌, List, [], ◌∷◌, ◌++◌, Option, None, Some, length, take, drop, get_or, ap, subst, sym, ◌∙◌, inl, inr}
use Rattle.std.proofs.lemmas.List.{drop_more, take_all, take-append-drop}
use Rattle.std.proofs.lemmas.Option.{slice_get-get_or}
use Rattle.std.specs.Prelude.{IfNone}
use Rattle.std.specs.List.{AllByRecursion}
use Rattle.journal_text.specs.declared.text.JournalText.{JournalText}
use Rattle.journal_text.specs.declared.text.Line.{Line}
use Rattle.journal_audit.specs.Contents.{Gives, GivesNone, HadContents, IsGiven, StoodThere}
use Rattle.journal_audit.proofs.Auditing.{take_next}
use Rattle.host_table.proofs.WritingLemmas.{all_append}

pub of_all : (P : Line → Type 0) (before : List Line) (line : Line) (after : List Line) → AllByRecursion P (before ++ line ∷ after) → P line
of_all P [] line after all = all.0
of_all P (one ∷ before) line after all = of_all P before line after all.1

module _ (name : List ℕ) (version : ℕ) (lines : List Line) (place : ℕ) (so : AllByRecursion (GivesNone name version) (take place lines)) where
  pub given_here : (line : Line) (contents : List ℕ) → place < length lines → line ≡ get_or lines place line → Gives name version line contents →
      IsGiven name version lines contents
  given_here line contents within is gives =
      record {
        before = take place lines;
        line = line;
        after = drop (place + 1) lines;
        lines_are = sym (take-append-drop place lines)
            ∙ ap (λ l. take place lines ++ l) (drop_more lines place line within ∙ ap (λ (one : Line). one ∷ drop (place + 1) lines) (sym is));
        first = so;
        gives = gives;
      }

  pub not_given : (line : Line) → place < length lines → line ≡ get_or lines place line → GivesNone name version line →
      AllByRecursion (GivesNone name version) (take (place + 1) lines)
  not_given line within is none =
      let at = slice_get-get_or lines place line within ∙ ap (λ (one : Line). Some one) (sym is) in
      subst (AllByRecursion (GivesNone name version)) (sym (take_next lines place line at)) (all_append (GivesNone name version) (take place lines) (line ∷ []) so (none, tt))

  pub never_given : length lines ≤ place → (contents : List ℕ) → IsGiven name version lines contents → ⊥
  never_given past contents given =
      let none = subst (AllByRecursion (GivesNone name version)) (take_all place lines past ∙ given.lines_are) so in
      of_all (GivesNone name version) given.before given.line given.after none contents given.gives

-- a file that neither stood there nor was given the version had none
pub never_had : {X : Type 0} (text : JournalText) (name : List ℕ) (version : ℕ) (lines : List Line) (found : Option X) → lines ≡ text.lines →
    ((contents : List ℕ) → StoodThere text name version contents → ⊥) → IfNone found ((contents : List ℕ) → IsGiven name version lines contents → ⊥) →
    IfNone found ((contents : List ℕ) → HadContents text name version contents → ⊥)
never_had text name version lines (Some x) same stood given = tt
never_had text name version lines None same stood given = λ contents had. elim had [
  | inl there ↦ stood contents there
  | inr one ↦ given contents (subst (λ (l : List Line). IsGiven name version l contents) (sym same) one.1)
]

-- ---- one version, one contents

module _ (name : List ℕ) (version : ℕ) where
  first_gives : (before other : List Line) (line one : Line) (after behind : List Line) (contents others : List ℕ) → before ++ line ∷ after ≡ other ++ one ∷ behind →
      AllByRecursion (GivesNone name version) before → AllByRecursion (GivesNone name version) other → Gives name version line contents → Gives name version one others →
      contents ≡ others
  first_gives [] [] line one after behind contents others same none nor a b =
      let is : line ≡ one = cc same in
      let told : Some contents ≡ Some others = sym a.contents_are ∙ ap (λ (l : Line). l.contents) is ∙ b.contents_are in
      cc told
  first_gives [] (x ∷ other) line one after behind contents others same none nor a b =
      let is : line ≡ x = cc same in
      absurd (nor.0 contents (subst (λ (l : Line). Gives name version l contents) is a))
  first_gives (x ∷ before) [] line one after behind contents others same none nor a b =
      let is : one ≡ x = cc same in
      absurd (none.0 others (subst (λ (l : Line). Gives name version l others) is b))
  first_gives (x ∷ before) (y ∷ other) line one after behind contents others same none nor a b =
      let rest : before ++ line ∷ after ≡ other ++ one ∷ behind = cc same in
      first_gives before other line one after behind contents others rest none.1 nor.1 a b

  pub one_contents : (text : JournalText) (contents others : List ℕ) → HadContents text name version contents → HadContents text name version others → contents ≡ others
  one_contents text contents others (inl a) (inl b) = let same : Some contents ≡ Some others = sym a.1 ∙ b.1 in cc same
  one_contents text contents others (inl a) (inr b) = absurd (b.0 contents a)
  one_contents text contents others (inr a) (inl b) = absurd (a.0 others b)
  one_contents text contents others (inr a) (inr b) =
      let x = a.1 in
      let y = b.1 in
      first_gives x.before y.before x.line y.line x.after y.after contents others (sym x.lines_are ∙ y.lines_are) x.first y.first x.gives y.gives
