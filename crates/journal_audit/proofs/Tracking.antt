-- What a line does to what is known of all files.
use Rattle.std.proofs.Common.{◌≡◌, ◌≢◌, ◌⊎◌, inl, inr, ℕ, zero, suc, ◌+◌, ◌<◌, ◌≤◌, Bool, true, false, cond, List, [], ◌∷◌, ◌++◌, Option, None, Some, length, refl, ap, sym, ◌∙◌, subst, arith, true≢false}
use Rattle.std.specs.Prelude.{get_or, slice_get, slice_set}
use Rattle.std.specs.Str.{bytes_eq}
use Rattle.std.proofs.lemmas.Slice.Eq.{bytes_eq-Decides}
use Rattle.wopi_model.specs.File.{File}
use Rattle.name_index.specs.Index.{number_of}
use Rattle.journal_text.specs.declared.text.Line.{Line}
use Rattle.journal_audit.specs.Judging.{Placed}
use Rattle.journal_audit.specs.Known.{IsKnown, unmet}
use Rattle.journal_audit.specs.Spent.{Ends, refuses}
use Rattle.journal_audit.specs.Tracks.{AreNumbered, IsKnownAt, OthersStay, Steps, Takes, all_left_by, left_by}
use Rattle.journal_audit.proofs.Knowing.{later_on}

module _ {A : Type 0} where
  pub got_set : (xs : List A) (k : ℕ) (x : A) → k < length xs → slice_get (slice_set xs k x) k ≡ Some x
  got_set [] k x h = absurd (omega arith)
  got_set (y ∷ xs) zero x h = refl
  got_set (y ∷ xs) (suc k) x h = got_set xs k x (omega arith)

  pub got_other : (xs : List A) (k n : ℕ) (x : A) → n ≢ k → slice_get (slice_set xs k x) n ≡ slice_get xs n
  got_other [] k n x apart = refl
  got_other (y ∷ xs) zero zero x apart = absurd (apart refl)
  got_other (y ∷ xs) zero (suc n) x apart = refl
  got_other (y ∷ xs) (suc k) zero x apart = refl
  got_other (y ∷ xs) (suc k) (suc n) x apart = got_other xs k n x (λ e. apart (ap suc e))

  pub got_front : (xs : List A) (x : A) (n : ℕ) (y : A) → slice_get xs n ≡ Some y → slice_get (xs ++ x ∷ []) n ≡ Some y
  got_front [] x n y e = absurd (cc e)
  got_front (z ∷ xs) x zero y e = e
  got_front (z ∷ xs) x (suc n) y e = got_front xs x n y e

  pub got_last : (xs : List A) (x : A) → slice_get (xs ++ x ∷ []) (length xs) ≡ Some x
  got_last [] x = refl
  got_last (y ∷ xs) x = got_last xs x

  pub got_below : (xs : List A) (n : ℕ) (x : A) → slice_get xs n ≡ Some x → n < length xs
  got_below [] n x e = absurd (cc e)
  got_below (y ∷ xs) zero x e = omega arith
  got_below (y ∷ xs) (suc n) x e = let less = got_below xs n x e in omega (arith, less)

pub some_same : {A : Type 0} (x y : A) → Some x ≡ Some y → x ≡ y
some_same x y e = cc e

pub longer : {A : Type 0} (xs : List A) (x : A) → length (xs ++ x ∷ []) ≡ length xs + 1
longer [] x = refl
longer (y ∷ xs) x = let e = longer xs x in omega (arith, e)

pub got_or : {A : Type 0} (xs : List A) (n : ℕ) (d : A) → n < length xs → slice_get xs n ≡ Some (get_or xs n d)
got_or [] n d below = absurd (omega (arith, below))
got_or (x ∷ xs) zero d below = refl
got_or (x ∷ xs) (suc n) d below = got_or xs n d (omega (arith, below))

-- the numbers are those of the same names, with files in other places
pub numbered_set : (names : List (List ℕ × ℕ)) (files files' : List Placed) (spent spent' : Ends) (number : ℕ) → AreNumbered names files spent → number < length files →
    length files' ≡ length files → OthersStay spent spent' number → AreNumbered names files' spent'
numbered_set names files files' spent spent' number are below long stay =
    record {
      within = λ name n e. let less = are.within name n e in omega (arith, less, long);
      apart = are.apart;
      beyond = λ n far id now.
          let far' : length files ≤ n = omega (arith, far, long) in
          stay n (λ e. absurd (omega (arith, e, far', below))) id now ∙ are.beyond n far' id now;
    }

-- ---- a line on a file that was met

other_known : (first : ℕ) (names : List (List ℕ × ℕ)) (files files' : List Placed) (spent spent' : Ends) (number : ℕ) (file : File) (before now : ℕ) (found : Option ℕ) → before ≤ now →
    ((n : ℕ) → found ≡ Some n → n ≢ number) → ((n : ℕ) → n ≢ number → slice_get files' n ≡ slice_get files n) → OthersStay spent spent' number →
    IsKnownAt first files spent found file before → IsKnownAt first files' spent' found file now
other_known first names files files' spent spent' number file before now None le apart same stay known =
    later_on (unmet first) (λ id later. false) (λ id later. false) file before now le known (λ id later late. refl)
other_known first names files files' spent spent' number file before now (Some n) le apart same stay known =
    let off = apart n refl in
    (known.0, same n off ∙ known.1, later_on known.0 (refuses spent n) (refuses spent' n) file before now le known.2 (λ id later late. stay n off id later))

pub takes_met : (first opened : ℕ) (line : Line) (names : List (List ℕ × ℕ)) (files files' : List Placed) (spent spent' : Ends) (number : ℕ) (old new : Placed) (ruled : Bool) →
    AreNumbered names files spent → number_of names line.name ≡ Some number → slice_get files number ≡ Some old → files' ≡ slice_set files number new → OthersStay spent spent' number →
    Steps old (refuses spent number) line opened ruled new (refuses spent' number) → Takes first opened line names files spent ruled names files' spent'
takes_met first opened line names files files' spent spent' number old new ruled are found stood set stay steps kept before le known =
    let mine : IsKnownAt first files spent (Some number) (kept line.name) before = subst (λ (o : Option ℕ). IsKnownAt first files spent o (kept line.name) before) found (known line.name) in
    let same : mine.0 ≡ old = some_same mine.0 old (sym mine.1 ∙ stood) in
    let step = steps (kept line.name) before le (subst (λ (p : Placed). IsKnown p (refuses spent number) (kept line.name) before) same mine.2) in
    let below = got_below files number old stood in
    let here : slice_get files' number ≡ Some new = ap (λ (l : List Placed). slice_get l number) set ∙ got_set files number new below in
    let others : (n : ℕ) → n ≢ number → slice_get files' n ≡ slice_get files n = λ n off. ap (λ (l : List Placed). slice_get l n) set ∙ got_other files number n new off in (
      step.0,
      λ yes name.
          elim (bytes_eq line.name name) as (λ b. bytes_eq line.name name ≡ b → IsKnownAt first files' spent' (number_of names name) (cond b (left_by (kept line.name) opened line) (kept name)) line.now) [
            | true ↦ λ e.
                let at : IsKnownAt first files' spent' (Some number) (left_by (kept line.name) opened line) line.now = (new, here, step.1 yes) in
                let own : line.name ≡ name = (bytes_eq-Decides line.name name).0 e in
                subst (λ (o : Option ℕ). IsKnownAt first files' spent' o (left_by (kept line.name) opened line) line.now) (sym found ∙ ap (number_of names) own) at
            | false ↦ λ e.
                other_known first names files files' spent spent' number (kept name) before line.now (number_of names name) le
                (λ n is same. absurd (true≢false (sym ((bytes_eq-Decides line.name name).1 (are.apart line.name name number found (is ∙ ap (λ (k : ℕ). Some k) same))) ∙ e)))
                others stay (known name)
          ] refl,
    )

-- ---- a line on the file of a name that was never met

pub takes_unmet : (first opened : ℕ) (line : Line) (names : List (List ℕ × ℕ)) (files : List Placed) (spent : Ends) (ruled : Bool) →
    number_of names line.name ≡ None → Steps (unmet first) (λ id later. false) line opened ruled (unmet first) (λ id later. false) → Takes first opened line names files spent ruled names files spent
takes_unmet first opened line names files spent ruled none steps kept before le known =
    let mine : IsKnownAt first files spent None (kept line.name) before = subst (λ (o : Option ℕ). IsKnownAt first files spent o (kept line.name) before) none (known line.name) in
    let step = steps (kept line.name) before le mine in (
      step.0,
      λ yes name.
          elim (bytes_eq line.name name) as (λ b. bytes_eq line.name name ≡ b → IsKnownAt first files spent (number_of names name) (cond b (left_by (kept line.name) opened line) (kept name)) line.now) [
            | true ↦ λ e.
                let at : IsKnownAt first files spent None (left_by (kept line.name) opened line) line.now = step.1 yes in
                let own : line.name ≡ name = (bytes_eq-Decides line.name name).0 e in
                subst (λ (o : Option ℕ). IsKnownAt first files spent o (left_by (kept line.name) opened line) line.now) (sym none ∙ ap (number_of names) own) at
            | false ↦ λ e. goes_on first files spent (kept name) before line.now (number_of names name) le (known name)
          ] refl,
    )
  where
    goes_on : (first : ℕ) (files : List Placed) (spent : Ends) (file : File) (before now : ℕ) (found : Option ℕ) → before ≤ now → IsKnownAt first files spent found file before → IsKnownAt first files spent found file now
    goes_on first files spent file before now None le known = later_on (unmet first) (λ id later. false) (λ id later. false) file before now le known (λ id later late. refl)
    goes_on first files spent file before now (Some n) le known = (known.0, known.1, later_on known.0 (refuses spent n) (refuses spent n) file before now le known.2 (λ id later late. refl))

-- and where it is met by it
pub takes_new : (first opened : ℕ) (line : Line) (names names' : List (List ℕ × ℕ)) (files files' : List Placed) (spent : Ends) (new : Placed) (ruled : Bool) →
    AreNumbered names files spent → number_of names line.name ≡ None → ((other : List ℕ) → number_of names' other ≡ cond (bytes_eq line.name other) (Some (length files)) (number_of names other)) →
    files' ≡ files ++ new ∷ [] → Steps (unmet first) (λ id later. false) line opened ruled new (refuses spent (length files)) → Takes first opened line names files spent ruled names' files' spent
takes_new first opened line names names' files files' spent new ruled are none added pushed steps kept before le known =
    let mine : IsKnownAt first files spent None (kept line.name) before = subst (λ (o : Option ℕ). IsKnownAt first files spent o (kept line.name) before) none (known line.name) in
    let step = steps (kept line.name) before le mine in
    let here : slice_get files' (length files) ≡ Some new = ap (λ (l : List Placed). slice_get l (length files)) pushed ∙ got_last files new in (
      step.0,
      λ yes name.
          subst (λ (o : Option ℕ). IsKnownAt first files' spent o (all_left_by kept opened line name) line.now) (sym (added name))
          (elim (bytes_eq line.name name) as (λ b. bytes_eq line.name name ≡ b → IsKnownAt first files' spent (cond b (Some (length files)) (number_of names name)) (cond b (left_by (kept line.name) opened line) (kept name)) line.now) [
            | true ↦ λ e. (new, here, step.1 yes)
            | false ↦ λ e. goes_on first files files' spent new pushed (kept name) before line.now (number_of names name) le (known name)
          ] refl),
    )
  where
    goes_on : (first : ℕ) (files files' : List Placed) (spent : Ends) (new : Placed) → files' ≡ files ++ new ∷ [] → (file : File) (before now : ℕ) (found : Option ℕ) → before ≤ now →
        IsKnownAt first files spent found file before → IsKnownAt first files' spent found file now
    goes_on first files files' spent new pushed file before now None le known = later_on (unmet first) (λ id later. false) (λ id later. false) file before now le known (λ id later late. refl)
    goes_on first files files' spent new pushed file before now (Some n) le known =
        (known.0, ap (λ (l : List Placed). slice_get l n) pushed ∙ got_front files new n known.0 known.1, later_on known.0 (refuses spent n) (refuses spent n) file before now le known.2 (λ id later late. refl))

case_of : (b : Bool) (m : ℕ) (found : Option ℕ) (n : ℕ) → cond b (Some m) found ≡ Some n → ((b ≡ true) × (m ≡ n)) ⊎ (found ≡ Some n)
case_of true m found n e = inl (refl, some_same m n e)
case_of false m found n e = inr e

pub numbered_new : (names names' : List (List ℕ × ℕ)) (files files' : List Placed) (spent : Ends) (name : List ℕ) (new : Placed) → AreNumbered names files spent →
    ((other : List ℕ) → number_of names' other ≡ cond (bytes_eq name other) (Some (length files)) (number_of names other)) → files' ≡ files ++ new ∷ [] → AreNumbered names' files' spent
numbered_new names names' files files' spent name new are added pushed =
    let long : length files' ≡ length files + 1 = ap (λ (l : List Placed). length l) pushed ∙ longer files new in
    let case : (other : List ℕ) (n : ℕ) → number_of names' other ≡ Some n → ((bytes_eq name other ≡ true) × (length files ≡ n)) ⊎ (number_of names other ≡ Some n) =
    λ other n e. case_of (bytes_eq name other) (length files) (number_of names other) n (sym (added other) ∙ e) in
    record {
      within = λ other n e. elim (case other n e) as (λ _. n < length files') [
        | inl new ↦ let is = new.1 in omega (arith, is, long)
        | inr is ↦ let less = are.within other n is in omega (arith, less, long)
      ];
      apart = λ one other n e f. elim (case one n e) as (λ _. one ≡ other) [
        | inl first ↦ elim (case other n f) as (λ _. one ≡ other) [
          | inl second ↦ sym ((bytes_eq-Decides name one).0 first.0) ∙ (bytes_eq-Decides name other).0 second.0
          | inr is ↦ let less = are.within other n is in let at = first.1 in absurd (omega (arith, less, at))
        ]
        | inr was ↦ elim (case other n f) as (λ _. one ≡ other) [
          | inl second ↦ let less = are.within one n was in let at = second.1 in absurd (omega (arith, less, at))
          | inr is ↦ are.apart one other n was is
        ]
      ];
      beyond = λ n far id now. are.beyond n (omega (arith, far, long)) id now;
    }

-- files without one that was added to the list alone
pub numbered_more : (names : List (List ℕ × ℕ)) (files files' : List Placed) (spent : Ends) (new : Placed) → AreNumbered names files spent → files' ≡ files ++ new ∷ [] → AreNumbered names files' spent
numbered_more names files files' spent new are pushed =
    let long : length files' ≡ length files + 1 = ap (λ (l : List Placed). length l) pushed ∙ longer files new in
    record {
      within = λ other n e. let less = are.within other n e in omega (arith, less, long);
      apart = are.apart;
      beyond = λ n far id now. are.beyond n (omega (arith, far, long)) id now;
    }
