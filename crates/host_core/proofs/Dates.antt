-- When the kept files were last saved, as one of them changes.
use Rattle.std.proofs.Common.{◌≡◌, ℕ, suc, Bool, true, false, if◌then◌else◌, List, [], ◌∷◌, ◌++◌, set, get_or, Option, None, Some, option_map, refl, sym, ap, ◌∙◌}
use Rattle.std.proofs.lemmas.Slice.Eq.{bytes_eq-Decides}
use Rattle.std.specs.Str.{bytes_eq}
use Rattle.wopi_model.specs.Moment.{IsMoment}
use Rattle.host_core.specs.declared.file.KeptFile.{KeptFile}
use Rattle.host_core.specs.Facts.{date_in}
use Rattle.host_core.specs.Names.{place_in}
use Rattle.host_core.specs.Numbers.{named}
use Rattle.host_core.proofs.Numbering.{some_is, some_place}

-- one of two moments is one
pub moment_if : (b : Bool) (m n : ℕ) → IsMoment m → IsMoment n → IsMoment (if b then m else n)
moment_if true m n h k = h
moment_if false m n h k = k

pub date_none : (files : List KeptFile) (name : List ℕ) → place_in (named files) name ≡ None → date_in files name ≡ 0
date_none [] name e = refl
date_none (f ∷ files) name e = go (bytes_eq f.name name) (place_in (named files) name) (date_none files name) e where
  go : (b : Bool) (o : Option ℕ) → (o ≡ None → date_in files name ≡ 0) → (if b then Some 0 else option_map suc o) ≡ None → (if b then f.saved else date_in files name) ≡ 0
  go true o more e = absurd (cc)
  go false None more e = more refl
  go false (Some n) more e = absurd (cc)

pub date_at : (files : List KeptFile) (name : List ℕ) (n : ℕ) (k : KeptFile) → place_in (named files) name ≡ Some n → k ≡ get_or files n k → date_in files name ≡ k.saved
date_at [] name n k at e = absurd (cc)
date_at (f ∷ files) name n k at e = go (λ q there is. date_at files name q k there is) n (bytes_eq f.name name) refl e at where
  go : ((q : ℕ) → place_in (named files) name ≡ Some q → k ≡ get_or files q k → date_in files name ≡ k.saved) → (n : ℕ) (b : Bool) → bytes_eq f.name name ≡ b → k ≡ get_or (f ∷ files) n k → (if bytes_eq f.name name then Some 0 else option_map suc (place_in (named files) name)) ≡ Some n
      → (if bytes_eq f.name name then f.saved else date_in files name) ≡ k.saved
  go more n true is e at =
      let first : 0 ≡ n = some_is 0 n (sym (ap (λ (b : Bool). if b then Some 0 else option_map suc (place_in (named files) name)) is) ∙ at) in
      ap (λ (b : Bool). if b then f.saved else date_in files name) is ∙ sym (ap (λ (x : KeptFile). x.saved) (e ∙ sym (ap (λ (m : ℕ). get_or (f ∷ files) m k) first)))
  go more n false is e at =
      let (q, there, next) = some_place (bytes_eq f.name name) (place_in (named files) name) n at is in
      ap (λ (b : Bool). if b then f.saved else date_in files name) is
      ∙ more q there (e ∙ sym (ap (λ (m : ℕ). get_or (f ∷ files) m k) next))

-- two names can't both be the third where they differ
module _ (x y : ℕ) (rest : ℕ) (first called name : List ℕ) (differ : bytes_eq first called ≡ false) where
  swapped : (a b : Bool) → bytes_eq first name ≡ a → bytes_eq called name ≡ b → (if a then x else if b then y else rest) ≡ (if b then y else if a then x else rest)
  swapped true true h k =
      let same : first ≡ called = (bytes_eq-Decides first name).0 h ∙ sym ((bytes_eq-Decides called name).0 k) in
      absurd (cc ((bytes_eq-Decides first called).1 same, differ))
  swapped true false h k = refl
  swapped false b h k = refl

pub date_set : (files : List KeptFile) (called : List ℕ) (n : ℕ) (k k' : KeptFile) → place_in (named files) called ≡ Some n → k ≡ get_or files n k → k'.name ≡ k.name
    → (name : List ℕ) → date_in (set files n k') name ≡ (if bytes_eq called name then k'.saved else date_in files name)
date_set [] called n k k' at e same name = absurd (cc)
date_set (f ∷ files) called n k k' at e same name = go (λ q there is. date_set files called q k k' there is same name) n (bytes_eq f.name called) refl e at where
  go : ((q : ℕ) → place_in (named files) called ≡ Some q → k ≡ get_or files q k → date_in (set files q k') name ≡ (if bytes_eq called name then k'.saved else date_in files name)) → (n : ℕ) (b : Bool) → bytes_eq f.name called ≡ b → k ≡ get_or (f ∷ files) n k → (if bytes_eq f.name called then Some 0 else option_map suc (place_in (named files) called)) ≡ Some n
      → date_in (set (f ∷ files) n k') name ≡ (if bytes_eq called name then k'.saved else date_in (f ∷ files) name)
  go more n true is e at =
      let first : 0 ≡ n = some_is 0 n (sym (ap (λ (b : Bool). if b then Some 0 else option_map suc (place_in (named files) called)) is) ∙ at) in
      let here : k ≡ f = e ∙ sym (ap (λ (m : ℕ). get_or (f ∷ files) m k) first) in
      let old : f.name ≡ called = (bytes_eq-Decides f.name called).0 is in
      let new : k'.name ≡ called = same ∙ ap (λ (x : KeptFile). x.name) here ∙ old in
      ap (λ (m : ℕ). date_in (set (f ∷ files) m k') name) (sym first)
      ∙ ap (λ (l : List ℕ). if bytes_eq l name then k'.saved else date_in files name) new
      ∙ twice (bytes_eq called name)
      ∙ ap (λ (l : List ℕ). if bytes_eq called name then k'.saved else if bytes_eq l name then f.saved else date_in files name) (sym old) where
        twice : (b : Bool) → (if b then k'.saved else date_in files name) ≡ (if b then k'.saved else if b then f.saved else date_in files name)
        twice true = refl
        twice false = refl
  go more n false is e at =
      let (q, there, next) = some_place (bytes_eq f.name called) (place_in (named files) called) n at is in
      ap (λ (m : ℕ). date_in (set (f ∷ files) m k') name) (sym next)
      ∙ ap (λ (d : ℕ). if bytes_eq f.name name then f.saved else d) (more q there (e ∙ sym (ap (λ (m : ℕ). get_or (f ∷ files) m k) next)))
      ∙ swapped f.saved k'.saved (date_in files name) f.name called name is (bytes_eq f.name name) (bytes_eq called name) refl refl

pub date_push : (files : List KeptFile) (called : List ℕ) (k : KeptFile) → place_in (named files) called ≡ None → k.name ≡ called
    → (name : List ℕ) → date_in (files ++ k ∷ []) name ≡ (if bytes_eq called name then k.saved else date_in files name)
date_push [] called k none same name = ap (λ (l : List ℕ). if bytes_eq l name then k.saved else 0) same
date_push (f ∷ files) called k none same name =
    let parts = apart (bytes_eq f.name called) (place_in (named files) called) none in
    ap (λ (d : ℕ). if bytes_eq f.name name then f.saved else d) (date_push files called k parts.1 same name)
    ∙ swapped f.saved k.saved (date_in files name) f.name called name parts.0 (bytes_eq f.name name) (bytes_eq called name) refl refl where
      apart : (b : Bool) (p : Option ℕ) → (if b then Some 0 else option_map suc p) ≡ None → (b ≡ false) × (p ≡ None)
      apart true p e = absurd (cc)
      apart false None e = (refl, refl)
      apart false (Some p) e = absurd (cc)
