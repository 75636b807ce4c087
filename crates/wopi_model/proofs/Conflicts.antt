-- What a 409 tells.
use Rattle.std.proofs.Common.{◌≡◌, ◌≢◌, ◌⊎◌, ℕ, Bool, true, false, not, ◌&&◌, cond, List, Option, None, Some, is_some, is_none, refl, sym, ap, subst, ◌∙◌, inl, inr, arith}
use Rattle.std.proofs.lemmas.Bool.{not-true, and_parts, false≢true, true≢false}
use Rattle.std.proofs.lemmas.Slice.Eq.{bytes_eq-Decides}
use Rattle.std.specs.Str.{bytes_eq}
use Rattle.wopi_text.specs.declared.reason.Reason.{Reason}
use Rattle.wopi_text.specs.declared.reason.Reason.TheVariants as reason
use Rattle.wopi_model.specs.declared.locks.Verdict.{Verdict}
use Rattle.wopi_model.specs.declared.locks.Verdict.TheVariants as says
use Rattle.wopi_model.specs.declared.locks.Lock.{Lock}
use Rattle.wopi_model.specs.File.{File, exists}
use Rattle.wopi_model.specs.LockTable as table
use Rattle.wopi_model.specs.LockTable.{verdict}
use Rattle.wopi_model.specs.declared.calls.Act.TheVariants as act
use Rattle.wopi_model.specs.declared.calls.Act.{Act}
use Rattle.wopi_model.specs.Act.{lock_act, presents_spent}
use Rattle.wopi_model.specs.declared.calls.Call.{Call}
use Rattle.wopi_model.specs.declared.calls.Ruling.{Ruling}
use Rattle.wopi_model.specs.Step.{Decision, Refuse, Conflict, Accept, is_unauthorized, is_missing, lacks_right, is_too_large, lock_field, effect, ruling_of, IsOutcome}
use Rattle.wopi_model.specs.Shard.{Shard, Item, Tick, Step, IsAllowed, at_moment}
use Rattle.wopi_model.specs.Safety.{used_lock, ReasonHolds, TellsWhy}
use Rattle.wopi_model.proofs.Replacing.{acceptance-status}

-- a decision that tells 409 is a conflict by the lock table
conflict_only : (a b c e : Bool) (r : Verdict) (file : File) (call : Call) (now : ℕ) →
    let d : Decision = cond a (Refuse 401) (cond b (Refuse 404) (cond c (Refuse 404)
    (elim r [ says.Refuse reason ↦ Conflict reason | says.Accept ↦ cond e (Refuse 412) Accept ]))) in
    (ruling_of d file call now).status ≡ 409 → (reason : Reason) × (r ≡ says.Refuse reason) × (d ≡ Conflict reason)
conflict_only true b c e r file call now h = absurd (omega arith)
conflict_only false true c e r file call now h = absurd (omega arith)
conflict_only false false true e r file call now h = absurd (omega arith)
conflict_only false false false e (says.Refuse reason) file call now h = (reason, refl, refl)
conflict_only false false false true says.Accept file call now h = absurd (omega arith)
conflict_only false false false false says.Accept file call now h = absurd (omega (arith, acceptance-status call.act (effect file call now)))

-- which row of the lock table refused
row_of : (a b c d e : Bool) (why : Reason) →
    cond a (says.Refuse reason.Spent) (cond b (says.Refuse reason.NotLocked) (cond c (says.Refuse reason.Locked) (cond d (says.Refuse reason.Taken) (cond e (says.Refuse reason.Locked) says.Accept)))) ≡ says.Refuse why →
    ((a ≡ true) × (reason.Spent ≡ why)) ⊎ (((b ≡ true) × (reason.NotLocked ≡ why)) ⊎ (((c ≡ true) × (reason.Locked ≡ why)) ⊎ (((d ≡ true) × (reason.Taken ≡ why)) ⊎ ((e ≡ true) × (reason.Locked ≡ why)))))
row_of true b c d e why h = inl (refl, cc)
row_of false true c d e why h = inr (inl (refl, cc))
row_of false false true d e why h = inr (inr (inl (refl, cc)))
row_of false false false true e why h = inr (inr (inr (inl (refl, cc))))
row_of false false false false true why h = inr (inr (inr (inr (refl, cc))))
row_of false false false false false why h = cc

not_locked : (lock : Option Lock) → is_none lock ≡ true → lock ≡ None
not_locked None h = refl
not_locked (Some held) h = cc

another_id : (id held : List ℕ) → not (bytes_eq id held) ≡ true → Some id ≢ Some held
another_id id held h e =
    let same : id ≡ held = cc in
    true≢false (sym ((bytes_eq-Decides id held).1 same) ∙ not-true (bytes_eq id held) h)

locked_out : (lock : Option Lock) (file : File) (asked : Act) → table.is_locked_out lock (lock_act file asked) ≡ true →
    (held : Lock) × (lock ≡ Some held) × (used_lock asked ≢ Some held.id)
locked_out None file asked h = cc
locked_out (Some held) file (act.Lock id) h = (held, refl, another_id id held.id h)
locked_out (Some held) file (act.Refresh id) h = (held, refl, another_id id held.id h)
locked_out (Some held) file (act.Unlock id) h = (held, refl, another_id id held.id h)
locked_out (Some held) file (act.Relock old id) h = (held, refl, another_id old held.id h)
locked_out (Some held) file (act.Put None contents) h = (held, refl, λ e. cc)
locked_out (Some held) file (act.Put (Some id) contents) h = (held, refl, another_id id held.id h)
locked_out (Some held) file act.Delete h = (held, refl, λ e. cc)
locked_out (Some held) file act.Info h = cc
locked_out (Some held) file (act.Get most) h = cc
locked_out (Some held) file act.GetLock h = cc
locked_out (Some held) file act.Look h = cc
locked_out (Some held) file (act.Create overwrite contents) h = cc

name_taken : (file : File) (asked : Act) → table.is_name_taken (lock_act file asked) ≡ true → (exists file ≡ true) × (contents : List ℕ) × (asked ≡ act.Create false contents)
name_taken file (act.Create false contents) h = ((and_parts (exists file) true h).0, contents, refl)
name_taken file (act.Create true contents) h = absurd (false≢true (and_parts (exists file) false h).1)
name_taken file act.Info h = cc
name_taken file (act.Get most) h = cc
name_taken file (act.Put lock contents) h = cc
name_taken file (act.Lock id) h = cc
name_taken file act.GetLock h = cc
name_taken file (act.Refresh id) h = cc
name_taken file (act.Unlock id) h = cc
name_taken file (act.Relock old id) h = cc
name_taken file act.Look h = cc
name_taken file act.Delete h = cc

replacing : (lock : Option Lock) (file : File) (asked : Act) → (is_some lock && table.is_replacing (lock_act file asked)) ≡ true →
    (held : Lock) × (lock ≡ Some held) × (used_lock asked ≢ Some held.id)
replacing None file asked h = cc
replacing (Some held) file (act.Create overwrite contents) h = (held, refl, λ e. cc)
replacing (Some held) file act.Info h = cc
replacing (Some held) file (act.Get most) h = cc
replacing (Some held) file (act.Put lock contents) h = cc
replacing (Some held) file (act.Lock id) h = cc
replacing (Some held) file act.GetLock h = cc
replacing (Some held) file (act.Refresh id) h = cc
replacing (Some held) file (act.Unlock id) h = cc
replacing (Some held) file (act.Relock old id) h = cc
replacing (Some held) file act.Look h = cc
replacing (Some held) file act.Delete h = cc

reason_holds : (file : File) (asked : Act) (why : Reason) → verdict file.lock (presents_spent file.spent asked) (lock_act file asked) ≡ says.Refuse why → ReasonHolds file asked why
reason_holds file asked why h =
    let seen = lock_act file asked in
    elim (row_of (presents_spent file.spent asked) (is_none file.lock && table.needs_lock seen) (table.is_locked_out file.lock seen) (table.is_name_taken seen) (is_some file.lock && table.is_replacing seen) why h) [
      | inl r ↦ subst (ReasonHolds file asked) r.1 r.0
      | inr others ↦ elim others [
        | inl r ↦ subst (ReasonHolds file asked) r.1 (not_locked file.lock (and_parts (is_none file.lock) (table.needs_lock seen) r.0).0)
        | inr others ↦ elim others [
          | inl r ↦ subst (ReasonHolds file asked) r.1 (locked_out file.lock file asked r.0)
          | inr others ↦ elim others [
            | inl r ↦ subst (ReasonHolds file asked) r.1 (name_taken file asked r.0)
            | inr r ↦ subst (ReasonHolds file asked) r.1 (replacing file.lock file asked r.0)
          ]
        ]
      ]
    ]

told : (file : File) (call : Call) (opened now : ℕ) (ruling : Ruling) → IsOutcome file call opened now ruling → ruling.status ≡ 409 →
    (ruling.lock ≡ lock_field file.lock) × (why : Reason) × (ruling.reason ≡ Some why) × ReasonHolds file call.act why
told file call opened now ruling (inl same) h =
    let c = conflict_only (is_unauthorized call opened now) (is_missing file call.act) (lacks_right call) (is_too_large file call.act)
    (verdict file.lock (presents_spent file.spent call.act) (lock_act file call.act)) file call now (sym (ap (λ (r : Ruling). r.status) same) ∙ h) in
    let is = same ∙ ap (λ (d : Decision). ruling_of d file call now) c.2 in
    (ap (λ (r : Ruling). r.lock) is, c.0, ap (λ (r : Ruling). r.reason) is, reason_holds file call.act c.0 c.1)
told file call opened now ruling (inr fault) h =
    let e : ruling.status ≡ 500 = ap (λ (r : Ruling). r.status) fault.2 in
    absurd (omega arith)

pub tells_why : (shard : Shard) (item : Item) → IsAllowed shard item → TellsWhy shard item
tells_why shard (Tick moment) allowed = tt
tells_why shard (Step entry) allowed =
    let at = at_moment shard entry.moment in
    told (at.files entry.call.name) entry.call at.opened at.now entry.ruling allowed
