-- When the host opened, the version of its opening files, and the time, along the lines of a segment.
use Rattle.std.proofs.Common.{◌≡◌, ℕ, List, [], ◌∷◌, refl, sym, subst}
use Rattle.wopi_model.specs.Moment.{IsMoment}
use Rattle.wopi_model.specs.declared.locks.Lock.{Lock}
use Rattle.wopi_model.specs.declared.locks.Spent.{Spent}
use Rattle.host_core.specs.Opening.{IsFirstVersion}
use Rattle.journal_segments.specs.declared.rows.Head.{Head}
use Rattle.journal_segments.specs.declared.rows.Row.{Row}
use Rattle.journal_segments.specs.declared.rows.Row.TheVariants as row
use Rattle.journal_segments.specs.declared.state.Pending.{Pending}
use Rattle.journal_segments.specs.declared.state.Pending.TheVariants as pending
use Rattle.journal_segments.specs.declared.state.State.{State}
use Rattle.journal_segments.specs.Told.{Told}
use Rattle.journal_segments.specs.Rows.{AreRows, IsForm, IsHead, now_with, pending_held, pending_spent, start, state_after, step, told_by, told_with}

abbrev pub AreSet : Told → Type 0
AreSet told = IsMoment told.opened × IsFirstVersion told.first × IsMoment told.now

told_set : (told : Told) (last : Pending) → AreSet told → IsMoment (now_with told last) → AreSet (told_with told last)
told_set told pending.Start set late = set
told_set told (pending.File name place) set late = set
told_set told (pending.Entry line) set late = (set.0, set.1, late)
told_set told pending.Done set late = set

held_now : (told : Told) (last : Pending) (lock : Lock) → IsMoment (now_with told last) → IsMoment (now_with told (pending_held last lock))
held_now told pending.Start lock late = late
held_now told (pending.File name place) lock late = late
held_now told (pending.Entry line) lock late = late
held_now told pending.Done lock late = late

spent_now : (told : Told) (last : Pending) (one : Spent) → IsMoment (now_with told last) → IsMoment (now_with told (pending_spent last one))
spent_now told pending.Start one late = late
spent_now told (pending.File name place) one late = late
spent_now told (pending.Entry line) one late = late
spent_now told pending.Done one late = late

step_set : (state : State) (one : Row) → AreSet state.told → IsMoment (now_with state.told state.pending) → IsForm one
    → AreSet (step state one).told × IsMoment (now_with (step state one).told (step state one).pending)
step_set state (row.At name version size) set late form = (let next = told_set state.told state.pending set late in (next, next.2))
step_set state (row.Held name lock) set late form = (set, held_now state.told state.pending lock late)
step_set state (row.Spent name one) set late form = (set, spent_now state.told state.pending one late)
step_set state (row.Entry line) set late form = (told_set state.told state.pending set late, form.0.now)
step_set state row.Off set late form = (set, set.2)
step_set state (row.Holds name contents) set late form = (let next = told_set state.told state.pending set late in (next, next.2))

rows_set : (state : State) (rows : List Row) → AreSet state.told → IsMoment (now_with state.told state.pending) → AreRows state rows
    → AreSet (told_with (state_after state rows).told (state_after state rows).pending)
rows_set state [] set late are = told_set state.told state.pending set late
rows_set state (one ∷ rows) set late are = (let next = step_set state one set late are.0 in rows_set (step state one) rows next.0 next.1 are.2)

pub all_set : (head : Head) (rows : List Row) → IsHead head → AreRows (start head) rows → AreSet (told_by head rows)
all_set head rows is are = rows_set (start head) rows (is.opened_is, is.first_is, is.now_is) is.now_is are
