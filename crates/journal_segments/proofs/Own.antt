-- Each name is that of a file of the shard.
use Rattle.std.proofs.Common.{◌≡◌, ◌==◌, ℕ, true, false, cond, List, [], ◌∷◌, ◌++◌, Some, sym, ap, ◌∙◌, subst}
use Rattle.std.specs.Prelude.{⊤}
use Rattle.std.specs.List.{AllByRecursion}
use Rattle.std.specs.Str.{bytes_eq}
use Rattle.host_core.specs.Opening.{MayKeep}
use Rattle.wopi_model.specs.Begin.{at_name, put_name}
use Rattle.wopi_model.specs.declared.locks.Lock.{Lock}
use Rattle.wopi_model.specs.declared.locks.Spent.{Spent}
use Rattle.journal_segments.specs.declared.rows.Head.{Head}
use Rattle.journal_segments.specs.declared.rows.Row.{Row}
use Rattle.journal_segments.specs.declared.rows.Row.TheVariants as row
use Rattle.journal_segments.specs.declared.state.Pending.{Pending}
use Rattle.journal_segments.specs.declared.state.Pending.TheVariants as pending
use Rattle.journal_segments.specs.declared.state.State.{State}
use Rattle.journal_segments.specs.Places.{AreOwn}
use Rattle.journal_segments.specs.Told.{Placed, Told, placed_by, unmet}
use Rattle.journal_segments.specs.Rows.{AreRows, IsForm, MayCome, MayStand, holding, pending_held, pending_spent, start, state_after, step, told_by, told_with}
use Rattle.journal_segments.specs.Openings.{IsPlaced, opening_rows, place_rows}
use Rattle.journal_segments.proofs.Going.{shard_after, state-append}
use Rattle.journal_segments.proofs.Written.{after-file, at_file}

module _ {A : Type 0} where
  own_push : (shard : ℕ) (files : List (List ℕ × A)) (name : List ℕ) (it : A) → AreOwn shard files → MayKeep (Some shard) name → AreOwn shard (files ++ (name, it) ∷ [])
  own_push shard [] name it own is = (is, tt)
  own_push shard (one ∷ files) name it own is = (own.0, own_push shard files name it own.1 is)

  own_put : (shard : ℕ) (files : List (List ℕ × A)) (name : List ℕ) (it : A) → AreOwn shard files → MayKeep (Some shard) name → AreOwn shard (put_name name it files)
  own_put shard [] name it own is = (is, tt)
  own_put shard (one ∷ files) name it own is =
      elim (bytes_eq one.0 name) as (λ b. AreOwn shard (cond b ((one.0, it) ∷ files) (one ∷ put_name name it files))) [
        | true ↦ (own.0, own.1)
        | false ↦ (own.0, own_put shard files name it own.1 is)
      ]

-- what the last line tells is of the shard
abbrev pub IsOwn : ℕ → Pending → Type 0
IsOwn shard pending.Start = ⊤
IsOwn shard (pending.File name place) = MayKeep (Some shard) name
IsOwn shard (pending.Entry line) = MayKeep (Some shard) line.name
IsOwn shard pending.Done = ⊤

pub told_own : (shard : ℕ) (told : Told) (last : Pending) → AreOwn shard told.files → IsOwn shard last → AreOwn shard (told_with told last).files
told_own shard told pending.Start own is = own
told_own shard told (pending.File name place) own is = own_push shard told.files name place own is
told_own shard told (pending.Entry line) own is =
    let it = placed_by told.files told.first line in
    elim (line.status == 200) as (λ b. AreOwn shard (cond b (put_name line.name it told.files) told.files)) [
      | true ↦ own_put shard told.files line.name it own is
      | false ↦ own
    ]
told_own shard told pending.Done own is = own

held_own : (shard : ℕ) (last : Pending) (lock : Lock) → IsOwn shard last → IsOwn shard (pending_held last lock)
held_own shard pending.Start lock is = is
held_own shard (pending.File name place) lock is = is
held_own shard (pending.Entry line) lock is = is
held_own shard pending.Done lock is = is

spent_own : (shard : ℕ) (last : Pending) (one : Spent) → IsOwn shard last → IsOwn shard (pending_spent last one)
spent_own shard pending.Start one is = is
spent_own shard (pending.File name place) one is = is
spent_own shard (pending.Entry line) one is = is
spent_own shard pending.Done one is = is

stands_own : (shard : ℕ) (last : Pending) (name : List ℕ) → IsOwn shard last → MayStand last name → MayKeep (Some shard) name
stands_own shard pending.Start name is stands = absurd stands
stands_own shard (pending.File own place) name is stands = absurd stands
stands_own shard (pending.Entry line) name is stands = subst (MayKeep (Some shard)) stands.0 is
stands_own shard pending.Done name is stands = absurd stands

step_own : (state : State) (one : Row) → AreOwn state.shard state.told.files → IsOwn state.shard state.pending → IsForm one → MayCome state one
    → AreOwn (step state one).shard (step state one).told.files × IsOwn (step state one).shard (step state one).pending
step_own state (row.At name version size) own is form comes = (told_own state.shard state.told state.pending own is, (form.0.0, comes.0))
step_own state (row.Held name lock) own is form comes = (own, held_own state.shard state.pending lock is)
step_own state (row.Spent name one) own is form comes = (own, spent_own state.shard state.pending one is)
step_own state (row.Entry line) own is form comes = (told_own state.shard state.told state.pending own is, (form.0.name, comes.1))
step_own state row.Off own is form comes = (own, tt)
step_own state (row.Holds name contents) own is form comes =
    let told = told_with state.told state.pending in (
      own_put state.shard told.files name (holding (at_name (unmet told.first) told.files name) contents) (told_own state.shard state.told state.pending own is)
          (stands_own state.shard state.pending name is comes),
      tt,
    )

pub rows_own : (state : State) (rows : List Row) → AreOwn state.shard state.told.files → IsOwn state.shard state.pending → AreRows state rows
    → AreOwn (state_after state rows).shard (told_with (state_after state rows).told (state_after state rows).pending).files
rows_own state [] own is are = told_own state.shard state.told state.pending own is
rows_own state (one ∷ rows) own is are = (let next = step_own state one own is are.0 are.1 in rows_own (step state one) rows next.0 next.1 are.2)

pub each_own : (head : Head) (rows : List Row) → AreRows (start head) rows → AreOwn head.shard (told_by head rows).files
each_own head rows are =
    let P : ℕ → Type 0 = λ shard. AreOwn shard (told_by head rows).files in
    subst P (shard_after (start head) rows) (rows_own (start head) rows tt tt are)

-- ---- behind a beginning

opening_own : (state : State) (files : List (List ℕ × Placed)) → AllByRecursion (IsPlaced state.shard) files → AreOwn state.shard state.told.files → IsOwn state.shard state.pending
    → AreOwn state.shard (state_after state (opening_rows files)).told.files × IsOwn state.shard (state_after state (opening_rows files)).pending
opening_own state [] are own is = (own, is)
opening_own state (file ∷ files) are own is =
    let next = at_file state.shard (told_with state.told state.pending) file.0 file.1 in
    let same : state_after state (opening_rows (file ∷ files)) ≡ state_after next (opening_rows files) =
    state-append state (place_rows file) (opening_rows files) ∙ ap (λ (s : State). state_after s (opening_rows files)) (after-file state file are.0.left) in
    let P : State → Type 0 = λ s. AreOwn state.shard s.told.files × IsOwn state.shard s.pending in
    subst P (sym same) (opening_own next files are.1 (told_own state.shard state.told state.pending own is) (are.0.at_is.0, are.0.own))

pub placed_own : (head : Head) (files : List (List ℕ × Placed)) (rows : List Row) → AllByRecursion (IsPlaced head.shard) files → AreRows (state_after (start head) (opening_rows files)) rows
    → AreOwn head.shard (told_by head (opening_rows files ++ rows)).files
placed_own head files rows placed are =
    let state = state_after (start head) (opening_rows files) in
    let number : state.shard ≡ head.shard = shard_after (start head) (opening_rows files) in
    let P : ℕ → Type 0 = λ shard. AreOwn shard state.told.files × IsOwn shard state.pending in
    let both = subst P (sym number) (opening_own (start head) files placed tt tt) in
    let Q : ℕ × State → Type 0 = λ p. AreOwn p.0 (told_with p.1.told p.1.pending).files in
    subst Q (λ i. ((shard_after state rows ∙ number) i, sym (state-append (start head) (opening_rows files) rows) i)) (rows_own state rows both.0 both.1 are)
