-- Each name is told once.
use Rattle.std.proofs.Common.{◌≡◌, ◌==◌, ℕ, Bool, true, false, cond, length, List, [], ◌∷◌, ◌++◌, Option, None, Some, refl, ap, sym, ◌∙◌, subst}
use Rattle.std.specs.Prelude.{⊤}
use Rattle.std.specs.Str.{bytes_eq}
use Rattle.std.proofs.lemmas.Slice.Eq.{bytes_eq-Decides}
use Rattle.wopi_model.specs.Begin.{put_name}
use Rattle.wopi_model.specs.declared.locks.Lock.{Lock}
use Rattle.wopi_model.specs.declared.locks.Spent.{Spent}
use Rattle.journal_segments.specs.declared.rows.Head.{Head}
use Rattle.journal_segments.specs.declared.rows.Row.{Row}
use Rattle.journal_segments.specs.declared.rows.Row.TheVariants as row
use Rattle.journal_segments.specs.declared.state.Pending.{Pending}
use Rattle.journal_segments.specs.declared.state.Pending.TheVariants as pending
use Rattle.journal_segments.specs.declared.state.State.{State}
use Rattle.journal_segments.specs.Places.{AreOnce, place_in}
use Rattle.journal_segments.specs.Told.{Placed, Told, placed_by, unmet}
use Rattle.journal_segments.specs.Rows.{AreRows, MayBegin, MayCome, holding, pending_held, pending_spent, start, state_after, step, told_by, told_with}
use Rattle.wopi_model.specs.Begin.{at_name}
use Rattle.journal_segments.proofs.Placing.{found_or, later, later_none, place_push}

-- ---- names

pub apart : (one other : List ℕ) → bytes_eq one other ≡ false → bytes_eq other one ≡ false
apart one other off =
    elim (bytes_eq other one) as (λ b. bytes_eq other one ≡ b → b ≡ false) [
      | true ↦ λ e.
          let on : bytes_eq one other ≡ true = (bytes_eq-Decides one other).1 (sym ((bytes_eq-Decides other one).0 e)) in absurd (cc (sym on ∙ off))
      | false ↦ λ e. refl
    ] refl

module _ {A : Type 0} where
  pub not_first : (one : List ℕ × A) (files : List (List ℕ × A)) (name : List ℕ) → place_in (one ∷ files) name ≡ None → (bytes_eq one.0 name ≡ false) × (place_in files name ≡ None)
  not_first one files name e =
      elim (bytes_eq one.0 name) as (λ b. cond b (Some 0) (later (place_in files name)) ≡ None → (b ≡ false) × (place_in files name ≡ None)) [
        | true ↦ λ h. absurd (cc h)
        | false ↦ λ h. (refl, later_none (place_in files name) h)
      ] e

  -- ---- one more

  once_push : (files : List (List ℕ × A)) (name : List ℕ) (it : A) → AreOnce files → place_in files name ≡ None → AreOnce (files ++ (name, it) ∷ [])
  once_push [] name it once none = (refl, tt)
  once_push (one ∷ files) name it once none =
      let first = not_first one files name none in
      let off = apart one.0 name first.0 in
      (place_push files name it one.0 ∙ (λ i. found_or (once.0 i) (cond (off i) (Some (length files)) None)), once_push files name it once.1 first.1)

  -- ---- one that changed

  put_absent : (files : List (List ℕ × A)) (name : List ℕ) (it : A) (other : List ℕ) → place_in files other ≡ None → bytes_eq name other ≡ false → place_in (put_name name it files) other ≡ None
  put_absent [] name it other none off = ap (λ (b : Bool). cond b (Some 0) (later None)) off
  put_absent (one ∷ files) name it other none off =
      let first = not_first one files other none in
      elim (bytes_eq one.0 name) as (λ b. place_in (cond b ((one.0, it) ∷ files) (one ∷ put_name name it files)) other ≡ None) [
        | true ↦ none
        | false ↦ λ i. cond (first.0 i) (Some 0) (later (put_absent files name it other first.1 off i))
      ]

  once_put : (files : List (List ℕ × A)) (name : List ℕ) (it : A) → AreOnce files → AreOnce (put_name name it files)
  once_put [] name it once = (refl, tt)
  once_put (one ∷ files) name it once =
      elim (bytes_eq one.0 name) as (λ b. bytes_eq one.0 name ≡ b → AreOnce (cond b ((one.0, it) ∷ files) (one ∷ put_name name it files))) [
        | true ↦ λ e. once
        | false ↦ λ e. (put_absent files name it one.0 once.0 (apart one.0 name e), once_put files name it once.1)
      ] refl

-- ---- what is told

-- the file of the last line stands behind others
abbrev IsNew : Pending → List (List ℕ × Placed) → Type 0
IsNew pending.Start files = ⊤
IsNew (pending.File name place) files = place_in files name ≡ None
IsNew (pending.Entry line) files = ⊤
IsNew pending.Done files = ⊤

told_once : (told : Told) (last : Pending) → AreOnce told.files → IsNew last told.files → AreOnce (told_with told last).files
told_once told pending.Start once new = once
told_once told (pending.File name place) once new = once_push told.files name place once new
told_once told (pending.Entry line) once new =
    let it = placed_by told.files told.first line in
    elim (line.status == 200) as (λ b. AreOnce (cond b (put_name line.name it told.files) told.files)) [
      | true ↦ once_put told.files line.name it once
      | false ↦ once
    ]
told_once told pending.Done once new = once

next_new : (told : Told) (last : Pending) (name : List ℕ) → MayBegin told last name → place_in (told_with told last).files name ≡ None
next_new told pending.Start name begins = begins
next_new told (pending.File own place) name begins = place_push told.files own place name ∙ (λ i. found_or (begins.1 i) (cond (begins.0 i) (Some (length told.files)) None))
next_new told (pending.Entry line) name begins = absurd begins
next_new told pending.Done name begins = absurd begins

held_new : (last : Pending) (lock : Lock) (files : List (List ℕ × Placed)) → IsNew last files → IsNew (pending_held last lock) files
held_new pending.Start lock files new = new
held_new (pending.File name place) lock files new = new
held_new (pending.Entry line) lock files new = new
held_new pending.Done lock files new = new

spent_new : (last : Pending) (one : Spent) (files : List (List ℕ × Placed)) → IsNew last files → IsNew (pending_spent last one) files
spent_new pending.Start one files new = new
spent_new (pending.File name place) one files new = new
spent_new (pending.Entry line) one files new = new
spent_new pending.Done one files new = new

step_once : (state : State) (one : Row) → AreOnce state.told.files → IsNew state.pending state.told.files → MayCome state one
    → AreOnce (step state one).told.files × IsNew (step state one).pending (step state one).told.files
step_once state (row.At name version size) once new comes = (told_once state.told state.pending once new, next_new state.told state.pending name comes.1)
step_once state (row.Held name lock) once new comes = (once, held_new state.pending lock state.told.files new)
step_once state (row.Spent name one) once new comes = (once, spent_new state.pending one state.told.files new)
step_once state (row.Entry line) once new comes = (told_once state.told state.pending once new, tt)
step_once state row.Off once new comes = (once, tt)
step_once state (row.Holds name contents) once new comes =
    let told = told_with state.told state.pending in
    (once_put told.files name (holding (at_name (unmet told.first) told.files name) contents) (told_once state.told state.pending once new), tt)

rows_once : (state : State) (rows : List Row) → AreOnce state.told.files → IsNew state.pending state.told.files → AreRows state rows
    → AreOnce (told_with (state_after state rows).told (state_after state rows).pending).files
rows_once state [] once new are = told_once state.told state.pending once new
rows_once state (one ∷ rows) once new are = (let next = step_once state one once new are.1 in rows_once (step state one) rows next.0 next.1 are.2)

pub each_once : (head : Head) (rows : List Row) → AreRows (start head) rows → AreOnce (told_by head rows).files
each_once head rows are = rows_once (start head) rows tt tt are

-- ---- names that weren't met

module _ {A : Type 0} where
  abbrev pub AreNew : List (List ℕ × A) → List (List ℕ × A) → Type 0
  AreNew before [] = ⊤
  AreNew before (one ∷ files) = (place_in before one.0 ≡ None) × AreNew before files

  pub all_new : (files : List (List ℕ × A)) → AreNew [] files
  all_new [] = tt
  all_new (one ∷ files) = (refl, all_new files)

  pub new_push : (before files : List (List ℕ × A)) (name : List ℕ) (it : A) → AreNew before files → place_in files name ≡ None → AreNew (before ++ (name, it) ∷ []) files
  new_push before [] name it new none = tt
  new_push before (one ∷ files) name it new none =
      let first = not_first one files name none in
      let off = apart one.0 name first.0 in
      (place_push before name it one.0 ∙ (λ i. found_or (new.0 i) (cond (off i) (Some (length before)) None)), new_push before files name it new.1 first.1)

-- no entry has come
abbrev pub IsBeginning : Pending → Type 0
IsBeginning pending.Start = ⊤
IsBeginning (pending.File name place) = ⊤
IsBeginning (pending.Entry line) = ⊥
IsBeginning pending.Done = ⊥

neither : (found : Option ℕ) (b : Bool) (n : ℕ) → found_or found (cond b (Some n) None) ≡ None → (b ≡ false) × (found ≡ None)
neither None true n e = absurd (cc e)
neither None false n e = (refl, refl)
neither (Some place) b n e = absurd (cc e)

pub may_begin : (told : Told) (last : Pending) (name : List ℕ) → IsBeginning last → place_in (told_with told last).files name ≡ None → MayBegin told last name
may_begin told pending.Start name is new = new
may_begin told (pending.File own place) name is new = neither (place_in told.files name) (bytes_eq own name) (length told.files) (sym (place_push told.files own place name) ∙ new)
may_begin told (pending.Entry line) name is new = absurd is
may_begin told pending.Done name is new = absurd is
