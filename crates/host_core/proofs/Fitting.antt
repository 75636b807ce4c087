-- What a step leaves of a file takes no place more, save where the step begins a lock.
use Rattle.std.proofs.Common.{◌≡◌, ◌⊎◌, inl, inr, ℕ, ◌+◌, ◌<◌, ◌≤◌, ◌==◌, max, Bool, true, false, not, if◌then◌else◌, List, [], ◌∷◌, ◌++◌, length, Option, None, Some, refl, ap, subst, ◌∙◌, arith}
use Rattle.std.specs.Str.{bytes_eq}
use Rattle.wopi_model.specs.declared.calls.Act.{Act}
use Rattle.wopi_model.specs.declared.calls.Act.TheVariants as act
use Rattle.wopi_model.specs.declared.calls.Call.{Call}
use Rattle.wopi_model.specs.declared.calls.Ruling.{Ruling}
use Rattle.wopi_model.specs.declared.locks.Lock.{Lock}
use Rattle.wopi_model.specs.declared.locks.Spent.{Spent}
use Rattle.wopi_model.specs.Act.{lock_act}
use Rattle.wopi_model.specs.File.{File}
use Rattle.wopi_model.specs.File.{never_met}
use Rattle.wopi_model.specs.Begin.{Begin}
use Rattle.wopi_model.specs.Host.{begins_lock, file_at, found_at}
use Rattle.wopi_model.specs.Lives.{begin_after, begin_at, ids_of, left_of, live_ids, lock_places}
use Rattle.wopi_model.specs.Moment.{IsMoment}
use Rattle.wopi_model.specs.Shard.{Tick}
use Rattle.wopi_model.proofs.Living.{begin_at-begin_at, left-append}
use Rattle.host_core.specs.Entries.{Made, history_of, items_of}
use Rattle.host_core.specs.Files.{files_of}
use Rattle.host_core.specs.Value.{Reflects}
use Rattle.host_core.specs.Whole.{Whole}
use Rattle.host_core.proofs.Finding.{entry_at, from_found, left-push}
use Rattle.host_core.proofs.History.{keeps-tick}
use Rattle.host_core.proofs.Timing.{found-later}
use Rattle.wopi_model.specs.LockTable.{lock_after, spent_by}
use Rattle.wopi_model.specs.Settle.{settled, with_spent}
use Rattle.wopi_model.specs.Step.{Decision, Refuse, Conflict, Accept, after_step, decision, file_of}
use Rattle.wopi_model.proofs.Fullness.{accepted_ids, all-settled-ids, sum-put}

-- by the lock that stands
module _ (contents : Option (List ℕ)) (version : ℕ) (spent : List Spent) (expires now : ℕ) where
  abbrev locked : Option Lock → File
  locked lock = record { contents = contents; version = version; lock = lock; spent = spent }

  abbrev TakesNoMore : Option Lock → Act → Type 0
  TakesNoMore lock asked =
      lock_places (lock_after lock (lock_act (locked lock) asked) expires now) + length (with_spent (spent_by lock (lock_act (locked lock) asked) expires) spent) ≤ lock_places lock + length spent

  no_more : (lock : Option Lock) (asked : Act) → begins_lock (locked lock) asked ≡ false → TakesNoMore lock asked
  no_more None act.Info e = omega arith
  no_more None (act.Get most) e = omega arith
  no_more None (act.Put id bytes) e = omega arith
  no_more None (act.Lock id) e = absurd (cc e)
  no_more None act.GetLock e = omega arith
  no_more None (act.Refresh id) e = omega arith
  no_more None (act.Unlock id) e = omega arith
  no_more None (act.Relock old id) e = omega arith
  no_more None act.Look e = omega arith
  no_more None (act.Create overwrite bytes) e = omega arith
  no_more None act.Delete e = omega arith
  no_more (Some lock) act.Info e = omega arith
  no_more (Some lock) (act.Get most) e = omega arith
  no_more (Some lock) (act.Put id bytes) e = omega arith
  no_more (Some lock) (act.Lock id) e = omega arith
  no_more (Some lock) act.GetLock e = omega arith
  no_more (Some lock) (act.Refresh id) e = omega arith
  no_more (Some lock) (act.Unlock id) e = omega arith
  no_more (Some lock) (act.Relock old id) e = go (bytes_eq old id) _ _ _ e where
    go : (b : Bool) (same new : Lock) (one : Spent) → not b ≡ false → lock_places (if b then Some same else Some new) + length (with_spent (if b then None else Some one) spent) ≤ 1 + length spent
    go true same new one e = omega arith
    go false same new one e = absurd (cc e)
  no_more (Some lock) act.Look e = omega arith
  no_more (Some lock) (act.Create overwrite bytes) e = omega arith
  no_more (Some lock) act.Delete e = omega arith

pub places-step : (file : File) (call : Call) (opened now : ℕ) (ruling : Ruling) → (ids_of (after_step file call opened now ruling) ≤ ids_of file)
    ⊎ ((decision file call opened now ≡ Accept) × (begins_lock file call.act ≡ true) × (ids_of (after_step file call opened now ruling) ≤ ids_of file + 1))
places-step file call opened now ruling = go (ruling.status == 500) (decision file call opened now) refl where
  go : (b : Bool) (d : Decision) → decision file call opened now ≡ d → (ids_of (if b then file else file_of d file call now) ≤ ids_of file)
      ⊎ ((decision file call opened now ≡ Accept) × (begins_lock file call.act ≡ true) × (ids_of (if b then file else file_of d file call now) ≤ ids_of file + 1))
  go true d e = inl (omega arith)
  go false (Refuse status) e = inl (omega arith)
  go false (Conflict reason) e = inl (omega arith)
  go false Accept e = by (begins_lock file call.act) refl where
    by : (b : Bool) → begins_lock file call.act ≡ b → (ids_of (file_of Accept file call now) ≤ ids_of file)
        ⊎ ((decision file call opened now ≡ Accept) × (begins_lock file call.act ≡ true) × (ids_of (file_of Accept file call now) ≤ ids_of file + 1))
    by true begins = inr (e, begins, accepted_ids file.lock (lock_act file call.act) file.spent call.token.expires now)
    by false begins = inl (no_more file.contents file.version file.spent call.token.expires now file.lock call.act begins)

-- the places that the shard's files take when time goes on
pub fits-tick : (begin : Begin) (made : List Made) (time moment : ℕ) → live_ids (left_of begin (history_of made (max time moment))).files ≤ live_ids (left_of begin (history_of made time)).files
fits-tick begin made time moment =
    let before = left_of begin (items_of made) in
    let at : (t : ℕ) → left_of begin (history_of made t) ≡ begin_at before t = λ t. left-append begin (items_of made) (Tick t ∷ []) in
    let later = ap (λ (b : Begin). live_ids b.files) (at (max time moment)) in
    let twice = ap (λ (b : Begin). live_ids b.files) (begin_at-begin_at before time moment) in
    let here = ap (λ (b : Begin). live_ids b.files) (at time) in
    let less = all-settled-ids (begin_at before time).files (max (begin_at before time).now moment) in
    omega (arith, later, twice, here, less)

-- and with a step more, where there is a place for a lock that begins
pub fits-step : (told : Bool) (begin : Begin) (made : List Made) (time last bytes : ℕ) (files : List Whole) → Reflects begin made time last bytes files
    → (call : Call) (pass floor moment : ℕ) (ruling : Ruling) → IsMoment moment → (ids : ℕ) → live_ids (left_of begin (history_of made time)).files ≤ ids
    → (decision (settled (files_of begin.first files call.name) (max time moment)) call begin.opened (max time moment) ≡ Accept
    → begins_lock (settled (files_of begin.first files call.name) (max time moment)) call.act ≡ true → live_ids (found_at begin (history_of made time) moment).files < ids)
    → live_ids (left_of begin (history_of (made ++ record { time = max time moment; step = entry_at last pass floor moment call ruling; told = told } ∷ []) (max time moment))).files ≤ ids
fits-step told begin made time last bytes files k call pass floor moment ruling m ids fits place =
    let later = max time moment in
    let entry = entry_at last pass floor moment call ruling in
    let one : Made = record { time = later; step = entry; told = told } in
    let at = found_at begin (history_of made later) moment in
    let behind = begin_after at entry in
    let passed = keeps-tick begin made time last bytes files k moment m in
    let again : max later moment ≡ later = omega arith in
    let is : left_of begin (history_of (made ++ one ∷ []) later) ≡ begin_at behind later =
    left-append begin (items_of (made ++ one ∷ [])) (Tick later ∷ []) ∙ ap (λ (b : Begin). begin_at b later) (left-push begin made one) in
    let settles = all-settled-ids behind.files (max behind.now later) in
    let put = sum-put ids_of (never_met at.first) refl call.name (after_step (file_at at call) call at.opened at.now ruling) at.files in
    let same = ap (λ (b : Begin). live_ids b.files) (found-later begin made time moment) in
    let whole = ap (λ (b : Begin). live_ids b.files) is in
    let goes = all-settled-ids (left_of begin (history_of made time)).files (max (left_of begin (history_of made time)).now moment) in
    let wants : decision (file_at at call) call at.opened at.now ≡ Accept → begins_lock (file_at at call) call.act ≡ true → live_ids (found_at begin (history_of made time) moment).files < ids =
    λ accepts begins.
    let both = from_found begin made later last bytes files passed call moment (λ f o n. (decision f call o n ≡ Accept) × (begins_lock f call.act ≡ true)) (accepts, begins) in
    let both' = subst (λ (n : ℕ). (decision (settled (files_of begin.first files call.name) n) call begin.opened n ≡ Accept) × (begins_lock (settled (files_of begin.first files call.name) n) call.act ≡ true)) again both in
    place both'.0 both'.1 in
    elim (places-step (file_at at call) call at.opened at.now ruling) [
      | inl less ↦ omega (arith, settles, put, same, whole, goes, less, fits)
      | inr (accepts, begins, more) ↦ let low = wants accepts begins in omega (arith, settles, put, same, whole, more, low)
    ]
