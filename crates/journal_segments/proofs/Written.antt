-- The lines of a beginning, and the lines that count.
use Rattle.std.proofs.Common.{◌≡◌, ◌≤◌, ℕ, false, List, [], ◌∷◌, ◌++◌, Option, None, Some, refl, ap, sym, ◌∙◌, subst, arith, append_assoc, append-nil}
use Rattle.std.specs.Prelude.{map}
use Rattle.std.specs.List.{AllByRecursion}
use Rattle.wopi_model.specs.declared.locks.Lock.{Lock}
use Rattle.wopi_model.specs.declared.locks.Spent.{Spent}
use Rattle.journal_segments.specs.declared.rows.Head.{Head}
use Rattle.journal_segments.specs.declared.rows.Row.{Row}
use Rattle.journal_segments.specs.declared.rows.Row.TheVariants as row
use Rattle.journal_segments.specs.declared.state.State.{State}
use Rattle.journal_segments.specs.declared.state.Pending.TheVariants as pending
use Rattle.host_core.specs.declared.life.LifeContents.{LifeContents}
use Rattle.host_core.specs.declared.life.LifeContents.TheVariants as has
use Rattle.host_core.specs.Life.{is_changed}
use Rattle.journal_segments.specs.Places.{AreOnce}
use Rattle.journal_segments.specs.Told.{Placed, Told, size_told}
use Rattle.journal_segments.specs.declared.state.Pending.{Pending}
use Rattle.journal_segments.specs.Rows.{AreRows, IsSpent, MayBegin, MayTakeBack, left_as, now_with, placed_at, spent_place, start, state_after, step, told_by, told_holds, told_with}
use Rattle.wopi_model.specs.Shard.{Along, IsAllowed, begun}
use Rattle.host_core.specs.Entries.{Made, history_of, items_of}
use Rattle.wopi_model.specs.Begin.{Begin}
use Rattle.wopi_model.specs.Lives.{IsLeftBy}
use Rattle.journal_segments.specs.Told.{Tells, begin_of}
use Rattle.journal_segments.proofs.Going.{rows-append, state-append}
use Rattle.journal_segments.proofs.Once.{AreNew, IsBeginning, all_new, may_begin, new_push}
use Rattle.journal_segments.proofs.Telling.{left}
use Rattle.journal_segments.specs.Openings.{AreEntries, AreOf, GoOn, IsPlaced, MayBeHeld, counted, held_rows, opening_rows, place_rows, told_of, told_row, told_rows}

abbrev pub at_file : ℕ → Told → List ℕ → Placed → State
at_file shard told name place = record { shard = shard; told = told; pending = pending.File name place }

abbrev made : ℕ → Option ℕ → Option Lock → List Spent → Placed
made version size lock spent = record { version = version; contents = left_as size; lock = lock; spent = spent }

-- ---- one file

after-spent : (shard : ℕ) (told : Told) (name : List ℕ) (version : ℕ) (size : Option ℕ) (lock : Option Lock) (before spent : List Spent) →
    state_after (at_file shard told name (made version size lock before)) (map (λ one. row.Spent name one) spent) ≡ at_file shard told name (made version size lock (before ++ spent))
after-spent shard told name version size lock before [] = ap (λ (l : List Spent). at_file shard told name (made version size lock l)) (sym (append-nil before))
after-spent shard told name version size lock before (one ∷ spent) =
    after-spent shard told name version size lock (before ++ one ∷ []) spent
    ∙ ap (λ (l : List Spent). at_file shard told name (made version size lock l)) (append_assoc before (one ∷ []) spent)

after-parts : (state : State) (name : List ℕ) (version : ℕ) (size : Option ℕ) (lock : Option Lock) (spent : List Spent) →
    state_after state (row.At name version size ∷ (held_rows name lock ++ map (λ one. row.Spent name one) spent))
    ≡ at_file state.shard (told_with state.told state.pending) name (made version size lock spent)
after-parts state name version size None spent = after-spent state.shard (told_with state.told state.pending) name version size None [] spent
after-parts state name version size (Some lock) spent = after-spent state.shard (told_with state.told state.pending) name version size (Some lock) [] spent

left-same : (told : LifeContents) → is_changed told ≡ false → left_as (size_told told) ≡ told
left-same has.Absent left = refl
left-same (has.Left size) left = refl
left-same has.Removed left = absurd (cc left)
left-same (has.Told bytes) left = absurd (cc left)

pub after-file : (state : State) (file : List ℕ × Placed) → is_changed file.1.contents ≡ false →
    state_after state (place_rows file) ≡ at_file state.shard (told_with state.told state.pending) file.0 file.1
after-file state file left =
    let place : LifeContents → Placed = λ contents. record { version = file.1.version; contents = contents; lock = file.1.lock; spent = file.1.spent } in
    after-parts state file.0 file.1.version (size_told file.1.contents) file.1.lock file.1.spent
    ∙ ap (λ (contents : LifeContents). at_file state.shard (told_with state.told state.pending) file.0 (place contents)) (left-same file.1.contents left)

spent-rows : (shard : ℕ) (told : Told) (name : List ℕ) (place : Placed) (spent : List Spent) → AllByRecursion (IsSpent name) spent →
    AreRows (at_file shard told name place) (map (λ one. row.Spent name one) spent)
spent-rows shard told name place [] are = tt
spent-rows shard told name place (one ∷ spent) are = ((are.0, refl), refl, spent-rows shard told name (spent_place place one) spent are.1)

held-rows : (shard : ℕ) (told : Told) (name : List ℕ) (version : ℕ) (size : Option ℕ) (lock : Option Lock) (spent : List Spent) → MayBeHeld name lock → AllByRecursion (IsSpent name) spent →
    AreRows (at_file shard told name (placed_at version size)) (held_rows name lock ++ map (λ one. row.Spent name one) spent)
held-rows shard told name version size None spent held are = spent-rows shard told name (placed_at version size) spent are
held-rows shard told name version size (Some lock) spent held are = ((held, refl), (refl, refl, refl), spent-rows shard told name (made version size (Some lock) []) spent are)

file-rows : (state : State) (file : List ℕ × Placed) → IsPlaced state.shard file → MayBegin state.told state.pending file.0 → AreRows state (place_rows file)
file-rows state file is begins =
    ((is.at_is, refl), (is.own, begins), held-rows state.shard (told_with state.told state.pending) file.0 file.1.version (size_told file.1.contents) file.1.lock file.1.spent is.lock_is is.spent_are)

-- ---- all files

abbrev with_files : Told → List (List ℕ × Placed) → Told
with_files told files = record { opened = told.opened; first = told.first; now = told.now; last = told.last; files = told.files ++ files }

abbrev pub all_told : State → Told
all_told state = told_with state.told state.pending

told-files : (state : State) (files : List (List ℕ × Placed)) → AllByRecursion (IsPlaced state.shard) files → all_told (state_after state (opening_rows files)) ≡ with_files (all_told state) files
told-files state [] are =
    let told = all_told state in
    let put : List (List ℕ × Placed) → Told = λ l. record { opened = told.opened; first = told.first; now = told.now; last = told.last; files = l } in
    ap put (sym (append-nil told.files))
told-files state (file ∷ files) are =
    let told = all_told state in
    let put : List (List ℕ × Placed) → Told = λ l. record { opened = told.opened; first = told.first; now = told.now; last = told.last; files = l } in
    let next = at_file state.shard told file.0 file.1 in
    ap all_told (state-append state (place_rows file) (opening_rows files) ∙ ap (λ (s : State). state_after s (opening_rows files)) (after-file state file are.0.left))
    ∙ told-files next files are.1
    ∙ ap put (append_assoc told.files (file ∷ []) files)

files-rows : (state : State) (files : List (List ℕ × Placed)) → AllByRecursion (IsPlaced state.shard) files → AreOnce files → AreNew (all_told state).files files → IsBeginning state.pending →
    AreRows state (opening_rows files)
files-rows state [] are once new first = tt
files-rows state (file ∷ files) are once new first =
    let told = all_told state in
    let next = at_file state.shard told file.0 file.1 in
    rows-append state (place_rows file) (opening_rows files) (file-rows state file are.0 (may_begin state.told state.pending file.0 first new.0))
    (subst (λ (s : State). AreRows s (opening_rows files)) (sym (after-file state file are.0.left))
    (files-rows next files are.1 once.1 (new_push told.files files file.0 file.1 new.1 once.0) tt))

pub no-entry : (state : State) (files : List (List ℕ × Placed)) → AllByRecursion (IsPlaced state.shard) files → (MayTakeBack state.pending → ⊥) → MayTakeBack (state_after state (opening_rows files)).pending → ⊥
no-entry state [] are not = not
no-entry state (file ∷ files) are not =
    let next = at_file state.shard (all_told state) file.0 file.1 in
    let is : state_after state (opening_rows (file ∷ files)) ≡ state_after next (opening_rows files) =
    state-append state (place_rows file) (opening_rows files) ∙ ap (λ (s : State). state_after s (opening_rows files)) (after-file state file are.0.left) in
    subst (λ (s : State). MayTakeBack s.pending → ⊥) (sym is) (no-entry next files are.1 (λ h. h))

pub begins : (head : Head) (files : List (List ℕ × Placed)) → AllByRecursion (IsPlaced head.shard) files → AreOnce files → AreRows (start head) (opening_rows files)
begins head files are once = files-rows (start head) files are once (all_new files) tt

pub begun_tells : (head : Head) (files : List (List ℕ × Placed)) → AllByRecursion (IsPlaced head.shard) files → told_by head (opening_rows files) ≡ told_of head files
begun_tells head files are = told-files (start head) files are

-- ---- the lines that count

told-append : (told : Told) (rows more : List Row) → told_rows told (rows ++ more) ≡ told_rows (told_rows told rows) more
told-append told [] more = refl
told-append told (one ∷ rows) more = told-append (told_row told one) rows more

count : (state : State) (base : Told) (held rows : List Row) → all_told state ≡ told_rows base held → (MayTakeBack state.pending → state.told ≡ base) →
    AreEntries rows → AreRows state rows → all_told (state_after state rows) ≡ told_rows base (counted held rows)
count state base held [] told back entries are = told
count state base held (row.Entry line ∷ rows) told back entries are =
    count (step state (row.Entry line)) (all_told state) (row.Entry line ∷ []) rows refl (λ _. refl) entries are.2
    ∙ ap (λ (t : Told). told_rows t (counted (row.Entry line ∷ []) rows)) told
    ∙ sym (told-append base held (counted (row.Entry line ∷ []) rows))
count state base held (row.Off ∷ rows) told back entries are =
    count (step state row.Off) base [] rows (back are.1) (λ h. absurd h) entries are.2
count state base held (row.Holds name contents ∷ rows) told back entries are =
    count (step state (row.Holds name contents)) (told_holds (all_told state) name contents) [] rows refl (λ h. absurd h) entries are.2
    ∙ ap (λ (t : Told). told_rows (told_holds t name contents) (counted [] rows)) told
    ∙ sym (told-append base held (row.Holds name contents ∷ counted [] rows))
count state base held (row.At name version size ∷ rows) told back entries are = absurd entries
count state base held (row.Held name lock ∷ rows) told back entries are = absurd entries
count state base held (row.Spent name one ∷ rows) told back entries are = absurd entries

pub counts : (head : Head) (files : List (List ℕ × Placed)) (rows : List Row) → AllByRecursion (IsPlaced head.shard) files → AreEntries rows →
    AreRows (state_after (start head) (opening_rows files)) rows → told_by head (opening_rows files ++ rows) ≡ told_rows (told_of head files) (counted [] rows)
counts head files rows placed entries are =
    let state = state_after (start head) (opening_rows files) in
    ap all_told (state-append (start head) (opening_rows files) rows)
    ∙ count state (told_of head files) [] rows (begun_tells head files placed) (λ h. absurd (no-entry (start head) files placed (λ k. k) h)) entries are

-- ---- time goes on along the lines that count

abbrev now_after : ℕ → List Row → ℕ
now_after now [] = now
now_after now (row.Entry line ∷ rows) = now_after line.now rows
now_after now (other ∷ rows) = now_after now rows

-- the state's time is that of what is told with the last line
told-pending : (told : Told) (last : Pending) → now_with told last ≡ (told_with told last).now
told-pending told pending.Start = refl
told-pending told (pending.File name place) = refl
told-pending told (pending.Entry line) = refl
told-pending told pending.Done = refl

abbrev now_of : State → ℕ
now_of state = now_with state.told state.pending

on-append : (now : ℕ) (rows more : List Row) → GoOn now rows → GoOn (now_after now rows) more → GoOn now (rows ++ more)
on-append now [] more f s = s
on-append now (row.Entry line ∷ rows) more f s = (f.0, f.1, on-append line.now rows more f.2 s)
on-append now (row.At name version size ∷ rows) more f s = on-append now rows more f s
on-append now (row.Held name lock ∷ rows) more f s = on-append now rows more f s
on-append now (row.Spent name one ∷ rows) more f s = on-append now rows more f s
on-append now (row.Off ∷ rows) more f s = on-append now rows more f s
on-append now (row.Holds name contents ∷ rows) more f s = on-append now rows more f s

on : (state : State) (base : ℕ) (held rows : List Row) → GoOn base held → now_after base held ≡ now_of state → (MayTakeBack state.pending → state.told.now ≡ base) →
    AreEntries rows → AreRows state rows → GoOn base (counted held rows)
on state base held [] goes is back entries are = goes
on state base held (row.Entry line ∷ rows) goes is back entries are =
    let late : now_of state ≤ line.now = are.1.2 in
    let own : GoOn (now_after base held) (row.Entry line ∷ []) = (omega (arith, is, late), are.1.3, tt) in
    on-append base held (counted (row.Entry line ∷ []) rows) goes
    (on (step state (row.Entry line)) (now_after base held) (row.Entry line ∷ []) rows own refl (λ _. sym (told-pending state.told state.pending) ∙ sym is) entries are.2)
on state base held (row.Off ∷ rows) goes is back entries are =
    on (step state row.Off) base [] rows tt (sym (back are.1)) (λ h. absurd h) entries are.2
on state base held (row.Holds name contents ∷ rows) goes is back entries are =
    on-append base held (row.Holds name contents ∷ counted [] rows) goes
    (on (step state (row.Holds name contents)) (now_after base held) [] rows tt (is ∙ told-pending state.told state.pending) (λ h. absurd h) entries are.2)
on state base held (row.At name version size ∷ rows) goes is back entries are = absurd entries
on state base held (row.Held name lock ∷ rows) goes is back entries are = absurd entries
on state base held (row.Spent name one ∷ rows) goes is back entries are = absurd entries

pub restored_is_left : (folder : List ℕ → Option (List ℕ)) (begin : Begin) (head : Head) (files : List (List ℕ × Placed)) (rows : List Row) (made : List Made) →
    AllByRecursion (IsPlaced head.shard) files → AreEntries rows → AreRows (state_after (start head) (opening_rows files)) rows → AreOf (begun begin) (counted [] rows) made →
    Tells folder (told_of head files) (begun begin) → head.last ≡ begin.last → Along IsAllowed (begun begin) (items_of made) →
    IsLeftBy begin (history_of made (told_by head (opening_rows files ++ rows)).now) (begin_of folder (told_by head (opening_rows files ++ rows)))
restored_is_left folder begin head files rows made placed entries are of tells last along =
    let told : told_rows (told_of head files) (counted [] rows) ≡ told_by head (opening_rows files ++ rows) = sym (counts head files rows placed entries are) in
    let state = state_after (start head) (opening_rows files) in
    let same : (all_told state).now ≡ head.now = ap (λ (t : Told). t.now) (begun_tells head files placed) in
    let goes = on state head.now [] rows tt (sym (told-pending state.told state.pending ∙ same)) (λ h. absurd (no-entry (start head) files placed (λ k. k) h)) entries are in
    let P : Told → Type 0 = λ end. IsLeftBy begin (history_of made end.now) (begin_of folder end) in
    subst P told (left folder begin (told_of head files) (counted [] rows) made tells last of goes along)
