-- What is left of a shard's limits with a step more, and when it is full by what its code counts.
use Rattle.std.proofs.Common.{◌≡◌, ◌≢◌, inl, inr, ◌-◌, ◌^◌, ℕ, ◌+◌, ◌<◌, ◌≤◌, ◌==◌, max, Bool, true, false, if◌then◌else◌, List, [], ◌∷◌, ◌++◌, length, nat_lt, Option, None, Some, refl, sym, ap, subst, ◌∙◌, arith}
use Rattle.std.proofs.lemmas.Bool.Decides.{nat_tests}
use Rattle.std.proofs.lemmas.List.{length-append}
use Rattle.wopi_model.specs.Moment.{IsMoment}
use Rattle.wopi_model.specs.declared.calls.Call.{Call}
use Rattle.wopi_model.specs.declared.calls.Ruling.{Ruling}
use Rattle.wopi_model.specs.File.{File}
use Rattle.wopi_model.specs.Settle.{settled}
use Rattle.wopi_model.specs.Step.{Accept, after_step, decision}
use Rattle.wopi_model.specs.Begin.{Begin}
use Rattle.wopi_model.specs.Lives.{bytes_of, left_of, live_bytes, live_ids}
use Rattle.wopi_model.specs.Shard.{Item, entries, last_from, stamps}
use Rattle.wopi_model.specs.Host.{Limits, FullFrom, begins_lock, file_at, found_at, kept_from, most_kept, new_bytes}
use Rattle.wopi_model.proofs.Fullness.{all-settled-ids, ids-most, live-most, settled-bytes}
use Rattle.wopi_model.proofs.Histories.{Legal-tick}
use Rattle.std.proofs.lemmas.Slice.Eq.{bytes_eq-Decides}
use Rattle.host_core.specs.Entries.{Made, items_of, history_of}
use Rattle.host_core.specs.Files.{files_of}
use Rattle.kept_locks.specs.Locks.{Locks}
use Rattle.host_core.specs.Ledger.{HasSpare, IsFullOn, bytes_after}
use Rattle.host_core.specs.Steps.{TakesStep}
use Rattle.host_core.specs.Value.{KeepsAll, KeepsLive, KeepsWithin, Reflects}
use Rattle.host_core.specs.Whole.{Whole}
use Rattle.host_core.proofs.Counting.{all_counted, live_counted}
use Rattle.host_core.proofs.Finding.{as_found, entry_at, found_file, from_found, live_timed, live-step}
use Rattle.host_core.proofs.Fitting.{fits-step, fits-tick}
use Rattle.host_core.proofs.History.{kept_of-push, kept_timed, last_timed, long_timed}
use Rattle.host_core.proofs.Rising.{live_of}

below_full : (n m most : ℕ) → m ≡ n + 1 → n ≤ most → n ≢ most → m ≤ most
below_full n m most more le differ = grind (arith, nat_tests)

less_by : (a b : ℕ) → (a ≤ b → ⊥) → b < a
less_by a b never = go (nat_lt b a) refl where
  go : (t : Bool) → nat_lt b a ≡ t → b < a
  go true e = grind (arith, nat_tests, e)
  go false e = absurd (never (grind (arith, nat_tests, e)))

-- the shard is within its limits with a step more, where it wasn't full
pub within-step : (told : Bool) (calls : Option ℕ) (ids : ℕ) (begin : Begin) (made : List Made) (time last all bytes bytes' places : ℕ) (raw mid after : List Whole) (call : Call) (pass floor moment : ℕ) (ruling : Ruling)
    → KeepsWithin calls ids begin made time last bytes → Reflects begin made time last all raw → Reflects begin made (max time moment) last all mid → IsMoment moment
    → TakesStep begin.first mid after call begin.opened (max time moment) ruling
    → (files_of begin.first mid call.name).contents ≡ (files_of begin.first raw call.name).contents
    → (calls ≡ None → places ≡ live_ids (found_at begin (history_of made time) moment).files)
    → (IsFullOn calls ids (length made) (max floor last) bytes places (files_of begin.first raw call.name) call begin.opened (max time moment) → ⊥)
    → bytes' ≡ bytes_after calls bytes (bytes_of (files_of begin.first raw call.name).contents) call ruling
    → KeepsWithin calls ids begin (made ++ record { time = max time moment; step = entry_at last pass floor moment call ruling; told = told } ∷ []) (max time moment) (max last floor + 1) bytes'
within-step told (Some calls) ids begin made time last all bytes bytes' places raw mid after call pass floor moment ruling within k km m takes same counted room is =
    let one : Made = record { time = max time moment; step = entry_at last pass floor moment call ruling; told = told } in
    let more = length-append made (one ∷ []) in
    record {
      ids_are = within.ids_are;
      most = within.most;
      places = below_full (length made) (length (made ++ one ∷ [])) calls more within.places (λ e. room (inl e));
      free = within.free;
      anew = within.anew;
      bytes_are =
          is ∙ all_counted bytes call ruling ∙ ap (λ (n : ℕ). n + (if ruling.status == 200 then new_bytes call.act else 0)) within.bytes_are
          ∙ sym (kept_of-push begin made one);
    }
within-step told None ids begin made time last all bytes bytes' places raw mid after call pass floor moment ruling within k km m takes same counted room is =
    let later = max time moment in
    let again : max later moment ≡ later = omega arith in
    let raw_file = files_of begin.first raw call.name in
    let mid_file = files_of begin.first mid call.name in
    let takes' = subst (λ (t : ℕ). TakesStep begin.first mid after call begin.opened t ruling) (sym again) takes in
    let outcome = takes.outcome in
    let less : bytes_of mid_file.contents ≤ bytes = live_of begin made later last all bytes mid km within.bytes_are call.name in
    let is' : bytes' ≡ bytes_after None bytes (bytes_of mid_file.contents) call ruling = is ∙ ap (λ (o : Option (List ℕ)). bytes_after None bytes (bytes_of o) call ruling) (sym same) in
    let grows = live_counted bytes bytes' mid_file call begin.opened later ruling outcome less is' in
    let after_is : files_of begin.first after call.name ≡ after_step (settled mid_file later) call begin.opened later ruling =
    takes.files call.name ∙ ap (λ (b : Bool). if b then after_step (settled mid_file later) call begin.opened later ruling else mid_file) ((bytes_eq-Decides call.name call.name).1 refl) in
    let grows' : bytes' + bytes_of mid_file.contents ≡ bytes + bytes_of (files_of begin.first after call.name).contents =
    grows ∙ ap (λ (f : File). bytes + bytes_of f.contents) (sym after_is) in
    let counted' = counted refl in
    let wants : decision (settled raw_file later) call begin.opened later ≡ Accept → begins_lock (settled raw_file later) call.act ≡ true → live_ids (found_at begin (history_of made time) moment).files < ids =
    λ accepts begins. less_by ids (live_ids (found_at begin (history_of made time) moment).files) (λ taken. room (inr (inr (inr ((accepts, begins), omega (arith, taken, counted')))))) in
    let live = live-step told begin made later last all bytes bytes' mid after km within.bytes_are call pass floor moment ruling m takes' grows' in
    record {
      once = within.once;
      fits = fits-step told begin made time last all raw k call pass floor moment ruling m ids within.fits wants;
      low = let stamp = less_by (2 ^ 63 - 1) (max floor last) (λ spent. room (inr (inl spent))) in omega (arith, stamp);
      bytes_are = live ∙ ap (λ (t : ℕ). live_bytes (left_of begin (items_of (made ++ record { time = t; step = entry_at last pass floor moment call ruling; told = told } ∷ []))).files) again;
    }

-- and when time goes on
pub within-tick : (calls : Option ℕ) (ids : ℕ) (begin : Begin) (made : List Made) (time last bytes moment : ℕ) → KeepsWithin calls ids begin made time last bytes → KeepsWithin calls ids begin made (max time moment) last bytes
within-tick (Some calls) ids begin made time last bytes moment within = within
within-tick None ids begin made time last bytes moment within = record {
  once = within.once;
  fits = let more = fits-tick begin made time moment in let fits = within.fits in omega (arith, more, fits);
  low = within.low;
  bytes_are = within.bytes_are;
}

-- there is as much room for locks as before, or more
pub spare_more : (calls : Option ℕ) (ids made : ℕ) (old new : Locks) → new.room ≡ old.room → old.spare ≤ new.spare → HasSpare calls ids old made → HasSpare calls ids new made
spare_more None ids made old new room more spare = omega (arith, room, spare)
spare_more (Some calls) ids made old new room more spare = omega (arith, more, spare)

pub spare_room : (calls : Option ℕ) (ids made : ℕ) (locks : Locks) → calls ≡ None → HasSpare calls ids locks made → ids < locks.room
spare_room None ids made locks e spare = spare
spare_room (Some calls) ids made locks e spare = absurd (cc (e))

-- and with a step more
pub spare_step : (calls : Option ℕ) (ids made made' : ℕ) (old new : Locks) → made' ≡ made + 1 → new.room ≡ old.room → old.spare ≤ new.spare + 1 → HasSpare calls ids old made → HasSpare calls ids new made'
spare_step None ids made made' old new long room more spare = omega (arith, room, spare)
spare_step (Some calls) ids made made' old new long room more spare = omega (arith, long, more, spare)

pub spare_same : (calls : Option ℕ) (ids made made' : ℕ) (locks : Locks) → made' ≡ made → HasSpare calls ids locks made → HasSpare calls ids locks made'
spare_same None ids made made' locks long spare = spare
spare_same (Some calls) ids made made' locks long spare = omega (arith, long, spare)

-- where the store keeps all
module _ (begin : Begin) (calls ids : ℕ) (made : List Made) (time last all bytes places : ℕ) (files : List Whole) (k : Reflects begin made time last all files) (within : KeepsAll calls ids begin made bytes)
    (call : Call) (floor moment : ℕ) where
  abbrev kept_file : File
  kept_file = files_of begin.first files call.name

  abbrev history : List Item
  history = history_of made time

  abbrev all_limits : Limits
  all_limits = record { calls = Some calls; ids = ids }

  same_all : bytes ≡ kept_from begin history
  same_all = within.bytes_are ∙ sym (kept_timed begin made time)

  same_last : max floor (last_from begin.last (stamps (entries history))) ≡ max floor last
  same_last = ap (max floor) (last_timed begin made time ∙ sym k.last_is)

  abbrev TestedAll : Type 0
  TestedAll = IsFullOn (Some calls) ids (length made) (max floor last) bytes places kept_file call begin.opened (max time moment)

  as_accepted : decision (settled kept_file (max time moment)) call begin.opened (max time moment) ≡ Accept
      → decision (file_at (found_at begin history moment) call) call (found_at begin history moment).opened (found_at begin history moment).now ≡ Accept
  as_accepted h = as_found begin made time last all files k call moment (λ f o n. decision f call o n ≡ Accept) h

  from_accepted : decision (file_at (found_at begin history moment) call) call (found_at begin history moment).opened (found_at begin history moment).now ≡ Accept
      → decision (settled kept_file (max time moment)) call begin.opened (max time moment) ≡ Accept
  from_accepted h = from_found begin made time last all files k call moment (λ f o n. decision f call o n ≡ Accept) h

  full-all : TestedAll → FullFrom all_limits begin history floor call moment
  full-all (inl place) = inr (inl (inl (long_timed made time ∙ place)))
  full-all (inr (inl stamp)) = inl (same_last ∙ stamp)
  full-all (inr (inr (inl (accepts, brings, less)))) = inr (inl (inr (as_accepted accepts, brings, subst (λ (n : ℕ). most_kept < n + new_bytes call.act) same_all less)))
  full-all (inr (inr (inr none))) = absurd none

  all-full : FullFrom all_limits begin history floor call moment → TestedAll
  all-full (inl stamp) = inr (inl (sym same_last ∙ stamp))
  all-full (inr (inl (inl place))) = inl (sym (long_timed made time) ∙ place)
  all-full (inr (inl (inr (accepts, brings, less)))) =
      inr (inr (inl (from_accepted accepts, brings, subst (λ (n : ℕ). most_kept < n + new_bytes call.act) (sym same_all) less)))
  all-full (inr (inr (inl (accepts, brings, less)))) =
      let live = live-most begin history (Legal-tick begin (items_of made) time k.legal).allowed in
      let settles = settled-bytes (left_of begin history).files (max (left_of begin history).now moment) in
      let same = same_all in
      let more : most_kept < bytes + new_bytes call.act = omega (arith, live, settles, same, less) in
      inr (inr (inl (from_accepted accepts, brings, more)))
  all-full (inr (inr (inr (accepts, begins, less)))) =
      let live = ids-most begin history in
      let settles = all-settled-ids (left_of begin history).files (max (left_of begin history).now moment) in
      let long = long_timed made time in
      let free = within.free in
      let few = within.places in
      let are = within.ids_are in
      let place : length made ≡ calls = omega (arith, live, free, settles, less, few, long, are) in
      inl place

-- and where it takes any number of calls
module _ (begin : Begin) (ids : ℕ) (made : List Made) (time last all bytes places : ℕ) (files : List Whole) (k : Reflects begin made time last all files) (within : KeepsLive ids begin made time last bytes)
    (call : Call) (floor moment : ℕ) (counted : places ≡ live_ids (found_at begin (history_of made time) moment).files) where
  abbrev live_file : File
  live_file = files_of begin.first files call.name

  abbrev at : Begin
  at = found_at begin (history_of made time) moment

  abbrev live_limits : Limits
  live_limits = record { calls = None; ids = ids }

  live_last : max floor (last_from begin.last (stamps (entries (history_of made time)))) ≡ max floor last
  live_last = ap (max floor) (last_timed begin made time ∙ sym k.last_is)

  same_live : live_bytes at.files ≡ bytes
  same_live = live_timed begin made time moment ∙ sym within.bytes_are

  same_bytes : bytes_of (file_at at call).contents ≡ bytes_of live_file.contents
  same_bytes = ap (λ (f : File). bytes_of f.contents) (found_file begin made time last all files k call moment)

  former_less : bytes_of live_file.contents ≤ bytes
  former_less = live_of begin made time last all bytes files k within.bytes_are call.name

  abbrev TestedLive : Type 0
  TestedLive = IsFullOn None ids (length made) (max floor last) bytes places live_file call begin.opened (max time moment)

  live_accepted : decision (settled live_file (max time moment)) call begin.opened (max time moment) ≡ Accept → decision (file_at at call) call at.opened at.now ≡ Accept
  live_accepted h = as_found begin made time last all files k call moment (λ f o n. decision f call o n ≡ Accept) h

  accepted_live : decision (file_at at call) call at.opened at.now ≡ Accept → decision (settled live_file (max time moment)) call begin.opened (max time moment) ≡ Accept
  accepted_live h = from_found begin made time last all files k call moment (λ f o n. decision f call o n ≡ Accept) h

  begins_same : begins_lock (file_at at call) call.act ≡ begins_lock (settled live_file (max time moment)) call.act
  begins_same = ap (λ (f : File). begins_lock f call.act) (found_file begin made time last all files k call moment)

  full-live : TestedLive → FullFrom live_limits begin (history_of made time) floor call moment
  full-live (inl none) = absurd none
  full-live (inr (inl spent)) = let same = live_last in inl (omega (arith, spent, same))
  full-live (inr (inr (inl (accepts, brings, more)))) =
      let same = same_live in
      let own = same_bytes in
      let le = former_less in
      let over : most_kept + bytes_of (file_at at call).contents < live_bytes at.files + new_bytes call.act = omega (arith, more, same, own, le) in
      inr (inr (inl (live_accepted accepts, brings, over)))
  full-live (inr (inr (inr ((accepts, begins), taken)))) =
      let all_taken : ids ≤ live_ids at.files = omega (arith, taken, counted) in
      inr (inr (inr (live_accepted accepts, begins_same ∙ begins, all_taken)))

  live-full : FullFrom live_limits begin (history_of made time) floor call moment → TestedLive
  live-full (inl stamp) = let same = live_last in inr (inl (omega (arith, stamp, same)))
  live-full (inr (inl none)) = absurd none
  live-full (inr (inr (inl (accepts, brings, more)))) =
      let same = same_live in
      let own = same_bytes in
      let le = former_less in
      let over : most_kept < bytes - bytes_of live_file.contents + new_bytes call.act = omega (arith, more, same, own, le) in
      inr (inr (inl (accepted_live accepts, brings, over)))
  live-full (inr (inr (inr (accepts, begins, taken)))) =
      let all_taken : ids ≤ places = omega (arith, taken, counted) in
      inr (inr (inr ((accepted_live accepts, sym begins_same ∙ begins), all_taken)))

-- the shard is full where the code finds it so
module _ (begin : Begin) (ids : ℕ) (made : List Made) (time last all bytes places : ℕ) (files : List Whole) (k : Reflects begin made time last all files) (call : Call) (floor moment : ℕ) where
  pub full-from : (calls : Option ℕ) → KeepsWithin calls ids begin made time last bytes → (calls ≡ None → places ≡ live_ids (found_at begin (history_of made time) moment).files)
      → IsFullOn calls ids (length made) (max floor last) bytes places (files_of begin.first files call.name) call begin.opened (max time moment)
      → FullFrom (record { calls = calls; ids = ids }) begin (history_of made time) floor call moment
  full-from (Some calls) within counted tested = full-all begin calls ids made time last all bytes places files k within call floor moment tested
  full-from None within counted tested = full-live begin ids made time last all bytes places files k within call floor moment (counted refl) tested

  pub from-full : (calls : Option ℕ) → KeepsWithin calls ids begin made time last bytes → (calls ≡ None → places ≡ live_ids (found_at begin (history_of made time) moment).files)
      → FullFrom (record { calls = calls; ids = ids }) begin (history_of made time) floor call moment
      → IsFullOn calls ids (length made) (max floor last) bytes places (files_of begin.first files call.name) call begin.opened (max time moment)
  from-full (Some calls) within counted full = all-full begin calls ids made time last all bytes places files k within call floor moment full
  from-full None within counted full = live-full begin ids made time last all bytes places files k within call floor moment (counted refl) full
