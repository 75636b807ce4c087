-- How many bytes of contents there are after a call.
use Rattle.std.proofs.Common.{◌≡◌, ◌≢◌, inl, inr, ℕ, ◌+◌, ◌-◌, ◌<◌, ◌≤◌, ◌^◌, ◌==◌, Bool, true, false, ◌&&◌, ◌||◌, if◌then◌else◌, None, refl, ap, ◌∙◌, arith}
use Rattle.std.proofs.lemmas.Bool.Decides.{nat_tests}
use Rattle.wopi_model.specs.declared.calls.Act.{Act}
use Rattle.wopi_model.specs.declared.calls.Act.TheVariants as act
use Rattle.wopi_model.specs.declared.calls.Call.{Call}
use Rattle.wopi_model.specs.declared.calls.Ruling.{Ruling}
use Rattle.wopi_model.specs.File.{File}
use Rattle.wopi_model.specs.Settle.{settled}
use Rattle.wopi_model.specs.Host.{new_bytes, brings_contents, most_kept}
use Rattle.wopi_model.specs.Act.{is_stored}
use Rattle.wopi_model.specs.Lives.{bytes_of}
use Rattle.wopi_model.specs.Step.{Decision, Refuse, Conflict, Accept, after_step, decision, file_of, IsOutcome}
use Rattle.host_core.specs.Steps.{IsRoomFor}
use Rattle.host_core.specs.Ledger.{bytes_after}
use Rattle.host_core.specs.Store.{brought, is_store_call}
use Rattle.host_core.proofs.Decisions.{contents-step, refused_status}

both : (b : Bool) → b ≡ true → b ≡ false → ⊥
both b h e = cc

brings_none : (asked : Act) → brings_contents asked ≡ false → new_bytes asked ≡ 0
brings_none (act.Put lock contents) e = cc
brings_none (act.Create overwrite contents) e = cc
brings_none _ e = refl

stored_brings : (asked : Act) → is_stored asked ≡ false → new_bytes asked ≡ 0
stored_brings (act.Put lock contents) e = absurd (cc (e))
stored_brings (act.Create overwrite contents) e = absurd (cc (e))
stored_brings act.Delete e = refl
stored_brings act.Info e = refl
stored_brings (act.Get most) e = refl
stored_brings (act.Lock id) e = refl
stored_brings act.GetLock e = refl
stored_brings (act.Refresh id) e = refl
stored_brings (act.Unlock id) e = refl
stored_brings (act.Relock old id) e = refl
stored_brings act.Look e = refl

brought_bytes : (asked : Act) → is_stored asked ≡ true → bytes_of (brought asked) ≡ new_bytes asked
brought_bytes (act.Put lock contents) e = refl
brought_bytes (act.Create overwrite contents) e = refl
brought_bytes act.Delete e = refl
brought_bytes act.Info e = absurd (cc (e))
brought_bytes (act.Get most) e = absurd (cc (e))
brought_bytes (act.Lock id) e = absurd (cc (e))
brought_bytes act.GetLock e = absurd (cc (e))
brought_bytes (act.Refresh id) e = absurd (cc (e))
brought_bytes (act.Unlock id) e = absurd (cc (e))
brought_bytes (act.Relock old id) e = absurd (cc (e))
brought_bytes act.Look e = absurd (cc (e))

pub brings_stored : (asked : Act) → brings_contents asked ≡ true → is_stored asked ≡ true
brings_stored (act.Put lock contents) e = refl
brings_stored (act.Create overwrite contents) e = refl
brings_stored act.Delete e = absurd (cc (e))
brings_stored act.Info e = absurd (cc (e))
brings_stored (act.Get most) e = absurd (cc (e))
brings_stored (act.Lock id) e = absurd (cc (e))
brings_stored act.GetLock e = absurd (cc (e))
brings_stored (act.Refresh id) e = absurd (cc (e))
brings_stored (act.Unlock id) e = absurd (cc (e))
brings_stored (act.Relock old id) e = absurd (cc (e))
brings_stored act.Look e = absurd (cc (e))

pub both_true : (a b : Bool) → (a && b) ≡ true → (a ≡ true) × (b ≡ true)
both_true true b e = (refl, e)
both_true false b e = absurd (cc (e))

-- the same count of the same
pub counted_as : (a stored s : Bool) (beside beside' size size' bytes : ℕ) → stored ≡ s → (s ≡ true → beside ≡ beside') → size ≡ size'
    → (if a && stored then beside + size else bytes) ≡ (if a && s then beside' + size' else bytes)
counted_as a stored s beside beside' size size' bytes same is size_is = ap (λ (b : Bool). if a && b then beside + size else bytes) same ∙ go a s is where
  go : (a s : Bool) → (s ≡ true → beside ≡ beside') → (if a && s then beside + size else bytes) ≡ (if a && s then beside' + size' else bytes)
  go true true is = let e = is refl in omega (arith, e, size_is)
  go true false is = refl
  go false s is = refl

-- where a store keeps all, what an act brings counts where it is accepted
pub all_counted : (bytes : ℕ) (call : Call) (ruling : Ruling)
    → (if ruling.status == 200 && is_stored call.act then bytes + new_bytes call.act else bytes) ≡ bytes + (if ruling.status == 200 then new_bytes call.act else 0)
all_counted bytes call ruling = go (ruling.status == 200) (is_stored call.act) refl where
  go : (a b : Bool) → is_stored call.act ≡ b → (if a && b then bytes + new_bytes call.act else bytes) ≡ bytes + (if a then new_bytes call.act else 0)
  go true true e = refl
  go true false e = let none = stored_brings call.act e in omega (arith, none)
  go false b e = omega arith

-- and else the contents of the file, in place of those that it had
module _ (bytes bytes' : ℕ) (file : File) (call : Call) (opened now : ℕ) (ruling : Ruling) (outcome : IsOutcome (settled file now) call opened now ruling) (less : bytes_of file.contents ≤ bytes)
    (counts : bytes' ≡ bytes_after None bytes (bytes_of file.contents) call ruling) where
  abbrev next : ℕ
  next = bytes_of (after_step (settled file now) call opened now ruling).contents

  counted_by : (b : Bool) → (ruling.status == 200 && is_stored call.act) ≡ b → bytes' ≡ (if b then bytes - bytes_of file.contents + new_bytes call.act else bytes)
  counted_by b e = counts ∙ ap (λ (t : Bool). if t then bytes - bytes_of file.contents + new_bytes call.act else bytes) e

  next_by : ruling.status == 500 ≡ false → (b : Bool) → (ruling.status == 200 && is_stored call.act) ≡ b → next ≡ bytes_of (if b then brought call.act else file.contents)
  next_by whole b e =
      let store : is_store_call call.act ruling ≡ b = ap (λ (t : Bool). t || (ruling.status == 200 && is_stored call.act)) whole ∙ e in
      ap bytes_of (contents-step (settled file now) call opened now ruling outcome whole ∙ ap (λ (t : Bool). if t then brought call.act else file.contents) store)

  torn_stays : ruling.status == 500 ≡ true → next ≡ bytes_of file.contents
  torn_stays e = ap (λ (t : Bool). bytes_of (if t then settled file now else file_of (decision (settled file now) call opened now) (settled file now) call now).contents) e

  not_accepted : ruling.status == 500 ≡ true → (ruling.status == 200 && is_stored call.act) ≡ false
  not_accepted e =
      let other : ruling.status == 200 ≡ false = grind (arith, nat_tests, e) in
      ap (λ (t : Bool). t && is_stored call.act) other

  pub live_counted : bytes' + bytes_of file.contents ≡ bytes + next
  live_counted = go (ruling.status == 500) refl where
    by : ruling.status == 500 ≡ false → (b : Bool) → (ruling.status == 200 && is_stored call.act) ≡ b → bytes' + bytes_of file.contents ≡ bytes + next
    by whole true e =
        let count = counted_by true e in
        let new = next_by whole true e in
        let brings = brought_bytes call.act (both_true (ruling.status == 200) (is_stored call.act) e).1 in
        omega (arith, count, new, brings, less)
    by whole false e =
        let count = counted_by false e in
        let new = next_by whole false e in
        omega (arith, count, new)

    go : (b : Bool) → ruling.status == 500 ≡ b → bytes' + bytes_of file.contents ≡ bytes + next
    go true e =
        let count = counted_by false (not_accepted e) in
        let same = torn_stays e in
        omega (arith, count, same)
    go false e = by e (ruling.status == 200 && is_stored call.act) refl

-- a call that was accepted had room
pub counted_fits : (bytes : ℕ) (file : File) (call : Call) (opened now : ℕ) (ruling : Ruling) → bytes < 2 ^ 64 → IsOutcome (settled file now) call opened now ruling → IsRoomFor file bytes call opened now
    → ruling.status == 200 ≡ true → bytes + new_bytes call.act < 2 ^ 64
counted_fits bytes file call opened now ruling below outcome room done = by_brings (brings_contents call.act) refl done where
  at : File
  at = settled file now

  accepted : (d : Decision) → decision at call opened now ≡ d → ruling.status == 200 ≡ true → decision at call opened now ≡ Accept
  accepted Accept e done = e
  accepted (Refuse status) e done = absurd (refused outcome) where
    other : decision at call opened now ≢ Accept
    other h = cc (e, h)

    refused : IsOutcome at call opened now ruling → ⊥
    refused (inl told) = both (ruling.status == 200) done (ap (λ (r : Ruling). r.status == 200) told ∙ refused_status at call opened now other)
    refused (inr h) = both (ruling.status == 200) done (ap (λ (r : Ruling). r.status == 200) h.2)
  accepted (Conflict reason) e done = absurd (refused outcome) where
    other : decision at call opened now ≢ Accept
    other h = cc (e, h)

    refused : IsOutcome at call opened now ruling → ⊥
    refused (inl told) = both (ruling.status == 200) done (ap (λ (r : Ruling). r.status == 200) told ∙ refused_status at call opened now other)
    refused (inr h) = both (ruling.status == 200) done (ap (λ (r : Ruling). r.status == 200) h.2)

  by_brings : (b : Bool) → brings_contents call.act ≡ b → ruling.status == 200 ≡ true → bytes + new_bytes call.act < 2 ^ 64
  by_brings true brings done = let fits : bytes + new_bytes call.act ≤ most_kept = room (accepted (decision at call opened now) refl done) brings in omega (arith, fits)
  by_brings false brings done = let none = brings_none call.act brings in omega (arith, none, below)
