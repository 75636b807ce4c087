-- What is live never fills a shard before what is kept does.
use Rattle.std.proofs.Common.{◌≡◌, ◌↔◌, ◌⊎◌, ℕ, ◌+◌, ◌<◌, ◌≤◌, max, ◌==◌, Bool, true, false, cond, List, [], ◌∷◌, length, Option, None, Some, filter, map, sum_by, refl, ap, sym, ◌∙◌, subst, inl, inr, arith}
use Rattle.std.specs.Prelude.{nat_lt}
use Rattle.std.proofs.lemmas.Bool.{cond_both, eq-eqb}
use Rattle.std.proofs.lemmas.List.Sums.{sum_by-cons}
use Rattle.std.specs.Str.{bytes_eq}
use Rattle.wopi_model.specs.declared.locks.Lock.{Lock}
use Rattle.wopi_model.specs.declared.locks.Spent.{Spent}
use Rattle.wopi_model.specs.declared.locks.LockAct.{LockAct}
use Rattle.wopi_model.specs.declared.locks.LockAct.TheVariants as asks
use Rattle.wopi_model.specs.declared.calls.Act.{Act}
use Rattle.wopi_model.specs.declared.calls.Act.TheVariants as act
use Rattle.wopi_model.specs.declared.calls.Call.{Call}
use Rattle.wopi_model.specs.declared.calls.Ruling.{Ruling}
use Rattle.wopi_model.specs.File.{File, never_met, opened_with}
use Rattle.wopi_model.specs.Settle.{is_over, standing, expired, with_spent, still_spent, settled}
use Rattle.wopi_model.specs.LockTable.{lock_after, spent_by}
use Rattle.wopi_model.specs.Act.{lock_act}
use Rattle.wopi_model.specs.Step.{Decision, Refuse, Conflict, Accept, acceptance, contents_after, decision, effect, file_of, ruling_of, after_step, IsOutcome}
use Rattle.wopi_model.specs.Begin.{Begin, at_name, put_name, new_life}
use Rattle.wopi_model.specs.Lives.{begin_after, begin_at, begin_happens, bytes_of, ids_of, left_of, live_bytes, live_ids, lock_places}
use Rattle.wopi_model.specs.Shard.{Shard, Opening, Item, Tick, Step, Entry, Legal, Along, IsAllowed, begun, opened_shard, at_moment, happens, after, entries}
use Rattle.wopi_model.specs.Host.{FullAt, FullFrom, brings_contents, file_at, found_at, kept, kept_from, kept_limits, most_kept, new_bytes}
use Rattle.wopi_model.proofs.Soundness.{same_bytes}
use Rattle.wopi_model.proofs.Replacing.{acceptance-status}
use Rattle.wopi_model.proofs.Living.{begun-at, begun-left}

-- ---- sums over the files of a beginning

-- the sum changes by what stood under the name and what stands there now
pub sum-put : (f : File → ℕ) (other : File) → f other ≡ 0 → (name : List ℕ) (it : File) (files : List (List ℕ × File)) →
    sum_by (λ one. f one.1) (put_name name it files) + f (at_name other files name) ≡ sum_by (λ one. f one.1) files + f it
sum-put f other none name it [] =
    let sum = sum_by-cons (λ (one : List ℕ × File). f one.1) (name, it) [] in
    omega (arith, none, sum)
sum-put f other none name it (one ∷ files) =
    let rest = sum-put f other none name it files in
    let before = sum_by-cons (λ (one : List ℕ × File). f one.1) one files in
    let set = sum_by-cons (λ (one : List ℕ × File). f one.1) (one.0, it) files in
    let kept = sum_by-cons (λ (one : List ℕ × File). f one.1) one (put_name name it files) in
    elim (bytes_eq one.0 name) as (λ b. sum_by (λ one. f one.1) (cond b ((one.0, it) ∷ files) (one ∷ put_name name it files)) + f (cond b one.1 (at_name other files name))
    ≡ sum_by (λ one. f one.1) (one ∷ files) + f it) [
      | true ↦ omega (arith, before, set)
      | false ↦ omega (arith, before, kept, rest)
    ]

pub sum-map : (f : File → ℕ) (g : File → File) → ((file : File) → f (g file) ≤ f file) → (files : List (List ℕ × File)) →
    sum_by (λ (one : List ℕ × File). f one.1) (map (λ (one : List ℕ × File). (one.0, g one.1)) files) ≤ sum_by (λ (one : List ℕ × File). f one.1) files
sum-map f g less [] = omega arith
sum-map f g less (one ∷ files) =
    let rest = sum-map f g less files in
    let here = less one.1 in
    let before = sum_by-cons (λ (one : List ℕ × File). f one.1) one files in
    let behind = sum_by-cons (λ (one : List ℕ × File). f one.1) (one.0, g one.1) (map (λ (one : List ℕ × File). (one.0, g one.1)) files) in
    omega (arith, rest, here, before, behind)

-- ---- bytes

accepted_bytes : (file : File) (asked : Act) → bytes_of (contents_after file asked) ≤ new_bytes asked + bytes_of file.contents
accepted_bytes file act.Info = omega arith
accepted_bytes file (act.Get most) = omega arith
accepted_bytes file (act.Put lock contents) = omega arith
accepted_bytes file (act.Lock id) = omega arith
accepted_bytes file act.GetLock = omega arith
accepted_bytes file (act.Refresh id) = omega arith
accepted_bytes file (act.Unlock id) = omega arith
accepted_bytes file (act.Relock old id) = omega arith
accepted_bytes file act.Look = omega arith
accepted_bytes file (act.Create overwrite contents) = omega arith
accepted_bytes file act.Delete = omega arith

-- what an entry with that ruling brings
abbrev brought_by : Ruling → Act → ℕ
brought_by ruling asked = cond (ruling.status == 200) (new_bytes asked) 0

decided_bytes : (d : Decision) (file : File) (call : Call) (now : ℕ) (ruling : Ruling) → ruling ≡ ruling_of d file call now →
    bytes_of (file_of d file call now).contents ≤ brought_by ruling call.act + bytes_of file.contents
decided_bytes (Refuse status) file call now ruling is = omega arith
decided_bytes (Conflict reason) file call now ruling is = omega arith
decided_bytes Accept file call now ruling is =
    let ok : (ruling.status == 200) ≡ true = eq-eqb ruling.status 200 (ap (λ (r : Ruling). r.status) is ∙ acceptance-status call.act (effect file call now)) in
    let whole : brought_by ruling call.act ≡ new_bytes call.act = ap (λ (b : Bool). cond b (new_bytes call.act) 0) ok in
    let most = accepted_bytes file call.act in
    omega (arith, whole, most)

stepped_bytes : (file : File) (call : Call) (opened now : ℕ) (ruling : Ruling) → IsOutcome file call opened now ruling →
    bytes_of (after_step file call opened now ruling).contents ≤ brought_by ruling call.act + bytes_of file.contents
stepped_bytes file call opened now ruling (inl same) =
    cond_both (ruling.status == 500) file (file_of (decision file call opened now) file call now) (λ (f : File). bytes_of f.contents ≤ brought_by ruling call.act + bytes_of file.contents)
    (λ e. omega arith) (λ e. decided_bytes (decision file call opened now) file call now ruling same)
stepped_bytes file call opened now ruling (inr fault) =
    let failed : (ruling.status == 500) ≡ true = eq-eqb ruling.status 500 (ap (λ (r : Ruling). r.status) fault.2) in
    subst (λ (b : Bool). bytes_of (cond b file (file_of (decision file call opened now) file call now)).contents ≤ brought_by ruling call.act + bytes_of file.contents) (sym failed) (omega arith)

abbrev bytes_in : File → ℕ
bytes_in file = bytes_of file.contents

pub settled-bytes : (files : List (List ℕ × File)) (now : ℕ) → live_bytes (map (λ one. (one.0, settled one.1 now)) files) ≤ live_bytes files
settled-bytes files now = sum-map bytes_in (λ file. settled file now) (λ file. omega arith) files

abbrev brings : Entry → ℕ
brings entry = brought_by entry.ruling entry.call.act

abbrev file_in : Begin → List ℕ → File
file_in at name = at_name (never_met at.first) at.files name

entry-bytes : (at : Begin) (entry : Entry) → IsOutcome (file_in at entry.call.name) entry.call at.opened at.now entry.ruling →
    live_bytes (begin_after at entry).files ≤ live_bytes at.files + brings entry
entry-bytes at entry allowed =
    let file = file_in at entry.call.name in
    let put = sum-put bytes_in (never_met at.first) refl entry.call.name (after_step file entry.call at.opened at.now entry.ruling) at.files in
    let step = stepped_bytes file entry.call at.opened at.now entry.ruling allowed in
    omega (arith, put, step)

pub live-most : (begin : Begin) (history : List Item) → Along IsAllowed (begun begin) history →
    live_bytes (left_of begin history).files ≤ live_bytes begin.files + sum_by brings (entries history)
live-most begin [] along = omega arith
live-most begin (Tick moment ∷ items) along =
    let P : Shard → Type 0 = λ shard. Along IsAllowed shard items in
    let rest = live-most (begin_at begin moment) items (subst P (sym (begun-at begin moment)) along.1) in
    let here = settled-bytes begin.files (max begin.now moment) in
    omega (arith, rest, here)
live-most begin (Step entry ∷ items) along =
    let P : Shard → Type 0 = λ shard. Along IsAllowed shard items in
    let Q : Shard → Type 0 = λ shard. IsOutcome (shard.files entry.call.name) entry.call shard.opened shard.now entry.ruling in
    let at = begin_at begin entry.moment in
    let is : begun (begin_happens begin (Step entry)) ≡ happens (begun begin) (Step entry) = begun-left begin (Step entry ∷ []) in
    let rest = live-most (begin_after at entry) items (subst P (sym is) along.1) in
    let settles = settled-bytes begin.files (max begin.now entry.moment) in
    let step = entry-bytes at entry (subst Q (sym (begun-at begin entry.moment)) along.0) in
    let sum = sum_by-cons brings entry (entries items) in
    omega (arith, rest, settles, step, sum)

pub opening-bytes : (opening : Opening) (first : ℕ) → live_bytes (map (λ file. (file.0, opened_with first file.1)) opening) ≡ sum_by (λ file. length file.1) opening
opening-bytes [] first = refl
opening-bytes (file ∷ opening) first =
    let rest = opening-bytes opening first in
    let live = sum_by-cons (λ (one : List ℕ × File). bytes_of one.1.contents) (file.0, opened_with first file.1) (map (λ file. (file.0, opened_with first file.1)) opening) in
    let all = sum_by-cons (λ (one : List ℕ × List ℕ). length one.1) file opening in
    omega (arith, rest, live, all)

-- ---- ids

filter-less : {X : Type 0} (p : X → Bool) (xs : List X) → length (filter p xs) ≤ length xs
filter-less p [] = omega arith
filter-less p (x ∷ xs) =
    let rest = filter-less p xs in
    elim (p x) as (λ b. length (cond b (x ∷ filter p xs) (filter p xs)) ≤ length (x ∷ xs)) [
      | true ↦ omega (arith, rest)
      | false ↦ omega (arith, rest)
    ]

pub settled-ids : (file : File) (now : ℕ) → ids_of (settled file now) ≤ ids_of file
settled-ids file now = by_lock file.lock
  where
    by_lock : (lock : Option Lock) → lock_places (standing lock now) + length (still_spent (with_spent (expired lock now) file.spent) now) ≤ lock_places lock + length file.spent
    by_lock None = let less = filter-less (λ (one : Spent). nat_lt now one.until) file.spent in omega (arith, less)
    by_lock (Some lock) =
        let one : Spent = record { id = lock.id; until = lock.until } in
        let less = filter-less (λ (one : Spent). nat_lt now one.until) file.spent in
        let more = filter-less (λ (one : Spent). nat_lt now one.until) (one ∷ file.spent) in
        elim (is_over lock now) as (λ b. lock_places (cond b None (Some lock)) + length (still_spent (with_spent (cond b (Some one) None) file.spent) now) ≤ 1 + length file.spent) [
          | true ↦ omega (arith, more)
          | false ↦ omega (arith, less)
        ]

pub accepted_ids : (lock : Option Lock) (asked : LockAct) (spent : List Spent) (expires now : ℕ) →
    lock_places (lock_after lock asked expires now) + length (with_spent (spent_by lock asked expires) spent) ≤ lock_places lock + length spent + 1
accepted_ids None asks.Look spent expires now = omega arith
accepted_ids None (asks.Put id empty) spent expires now = omega arith
accepted_ids None (asks.Lock id) spent expires now = omega arith
accepted_ids None asks.GetLock spent expires now = omega arith
accepted_ids None (asks.Refresh id) spent expires now = omega arith
accepted_ids None (asks.Unlock id) spent expires now = omega arith
accepted_ids None (asks.Relock old id) spent expires now = omega arith
accepted_ids None (asks.Create exists overwrite) spent expires now = omega arith
accepted_ids None asks.Delete spent expires now = omega arith
accepted_ids (Some lock) asks.Look spent expires now = omega arith
accepted_ids (Some lock) (asks.Put id empty) spent expires now = omega arith
accepted_ids (Some lock) (asks.Lock id) spent expires now = omega arith
accepted_ids (Some lock) asks.GetLock spent expires now = omega arith
accepted_ids (Some lock) (asks.Refresh id) spent expires now = omega arith
accepted_ids (Some lock) (asks.Unlock id) spent expires now = omega arith
accepted_ids (Some lock) (asks.Relock old id) spent expires now =
    let new : Lock = record { id = id; since = now; until = expires } in
    let same : Lock = record lock { since = now; until = max lock.until expires } in
    let one : Spent = record { id = lock.id; until = max lock.until expires } in
    elim (bytes_eq old id) as (λ b. lock_places (cond b (Some same) (Some new)) + length (with_spent (cond b None (Some one)) spent) ≤ 1 + length spent + 1) [
      | true ↦ omega arith
      | false ↦ omega arith
    ]
accepted_ids (Some lock) (asks.Create exists overwrite) spent expires now = omega arith
accepted_ids (Some lock) asks.Delete spent expires now = omega arith

decided_ids : (d : Decision) (file : File) (call : Call) (now : ℕ) → ids_of (file_of d file call now) ≤ ids_of file + 1
decided_ids (Refuse status) file call now = omega arith
decided_ids (Conflict reason) file call now = omega arith
decided_ids Accept file call now = accepted_ids file.lock (lock_act file call.act) file.spent call.token.expires now

stepped_ids : (file : File) (call : Call) (opened now : ℕ) (ruling : Ruling) → ids_of (after_step file call opened now ruling) ≤ ids_of file + 1
stepped_ids file call opened now ruling =
    cond_both (ruling.status == 500) file (file_of (decision file call opened now) file call now) (λ (f : File). ids_of f ≤ ids_of file + 1)
    (λ e. omega arith) (λ e. decided_ids (decision file call opened now) file call now)

pub all-settled-ids : (files : List (List ℕ × File)) (now : ℕ) → live_ids (map (λ one. (one.0, settled one.1 now)) files) ≤ live_ids files
all-settled-ids files now = sum-map ids_of (λ file. settled file now) (λ file. settled-ids file now) files

pub entry-ids : (at : Begin) (entry : Entry) → live_ids (begin_after at entry).files ≤ live_ids at.files + 1
entry-ids at entry =
    let file = file_in at entry.call.name in
    let put = sum-put ids_of (never_met at.first) refl entry.call.name (after_step file entry.call at.opened at.now entry.ruling) at.files in
    let step = stepped_ids file entry.call at.opened at.now entry.ruling in
    omega (arith, put, step)

-- each entry takes a place at most
pub ids-most : (begin : Begin) (history : List Item) → live_ids (left_of begin history).files ≤ live_ids begin.files + length (entries history)
ids-most begin [] = omega arith
ids-most begin (Tick moment ∷ items) =
    let rest = ids-most (begin_at begin moment) items in
    let here = all-settled-ids begin.files (max begin.now moment) in
    omega (arith, rest, here)
ids-most begin (Step entry ∷ items) =
    let rest = ids-most (begin_after (begin_at begin entry.moment) entry) items in
    let settles = all-settled-ids begin.files (max begin.now entry.moment) in
    let step = entry-ids (begin_at begin entry.moment) entry in
    omega (arith, rest, settles, step)

pub opening-ids : (opening : Opening) (first : ℕ) → live_ids (map (λ file. (file.0, opened_with first file.1)) opening) ≡ 0
opening-ids [] first = refl
opening-ids (file ∷ opening) first =
    let rest = opening-ids opening first in
    let live = sum_by-cons (λ (one : List ℕ × File). ids_of one.1) (file.0, opened_with first file.1) (map (λ file. (file.0, opened_with first file.1)) opening) in
    omega (arith, rest, live)

-- ---- both ways to say when a shard is full

pub after-opened : (shard : Shard) (items : List Item) → (after shard items).opened ≡ shard.opened
after-opened shard [] = refl
after-opened shard (Tick moment ∷ items) = after-opened (happens shard (Tick moment)) items
after-opened shard (Step entry ∷ items) = after-opened (happens shard (Step entry)) items

pub begun-found : (begin : Begin) (history : List Item) (moment : ℕ) → begun (found_at begin history moment) ≡ at_moment (after (begun begin) history) moment
begun-found begin history moment = begun-at (left_of begin history) moment ∙ ap (λ (shard : Shard). at_moment shard moment) (begun-left begin history)

module _ (opening : Opening) (opened first calls : ℕ) (history : List Item) (floor : ℕ) (call : Call) (moment : ℕ) where
  abbrev life : Begin
  life = new_life opening opened first

  abbrev at : Begin
  at = found_at life history moment

  -- the call would be accepted there
  abbrev Accepts : Shard → Type 0
  Accepts shard = decision (shard.files call.name) call opened shard.now ≡ Accept

  opened-at : at.opened ≡ opened
  opened-at = ap (λ (shard : Shard). shard.opened) (begun-found life history moment) ∙ after-opened (opened_shard opening opened first) history

  accepted : decision (file_at at call) call at.opened at.now ≡ Accept → Accepts (at_moment (after (opened_shard opening opened first) history) moment)
  accepted h =
      let here : Accepts (begun at) = subst (λ (o : ℕ). decision (file_at at call) call o at.now ≡ Accept) opened-at h in
      subst Accepts (begun-found life history moment) here

  accepts : Accepts (at_moment (after (opened_shard opening opened first) history) moment) → decision (file_at at call) call at.opened at.now ≡ Accept
  accepts h =
      let here : Accepts (begun at) = subst Accepts (sym (begun-found life history moment)) h in
      subst (λ (o : ℕ). decision (file_at at call) call o at.now ≡ Accept) (sym opened-at) here

  same_kept : kept_from life history ≡ kept opening history
  same_kept = ap (λ (n : ℕ). n + sum_by (λ entry. cond (entry.ruling.status == 200) (new_bytes entry.call.act) 0) (entries history)) (opening-bytes opening first)

  pub full_of_kept : Legal opening opened first history → length (entries history) ≤ calls →
      FullFrom (kept_limits calls) life history floor call moment ↔ FullAt opening opened first calls history floor call moment
  full_of_kept legal few = (to, from)
    where
      to : FullFrom (kept_limits calls) life history floor call moment → FullAt opening opened first calls history floor call moment
      to (inl stamp) = inr (inl stamp)
      to (inr (inl (inl place))) = inl place
      to (inr (inl (inr room))) =
          let more : most_kept < kept opening history + new_bytes call.act = subst (λ (n : ℕ). most_kept < n + new_bytes call.act) same_kept room.2 in
          inr (inr (accepted room.0, room.1, more))
      to (inr (inr (inl bytes))) =
          let live = live-most life history legal.allowed in
          let settles = settled-bytes (left_of life history).files (max (left_of life history).now moment) in
          let same = same_kept in
          let passes = bytes.2 in
          let more : most_kept < kept opening history + new_bytes call.act = omega (arith, live, settles, same, passes) in
          inr (inr (accepted bytes.0, bytes.1, more))
      to (inr (inr (inr ids))) =
          let live = ids-most life history in
          let none = opening-ids opening first in
          let settles = all-settled-ids (left_of life history).files (max (left_of life history).now moment) in
          let passes = ids.2 in
          let place : length (entries history) ≡ calls = omega (arith, live, none, settles, passes, few) in
          inl place

      from : FullAt opening opened first calls history floor call moment → FullFrom (kept_limits calls) life history floor call moment
      from (inl place) = inr (inl (inl place))
      from (inr (inl stamp)) = inl stamp
      from (inr (inr room)) =
          let more : most_kept < kept_from life history + new_bytes call.act = subst (λ (n : ℕ). most_kept < n + new_bytes call.act) (sym same_kept) room.2 in
          inr (inl (inr (accepts room.0, room.1, more)))
