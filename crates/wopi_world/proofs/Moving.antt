-- What one item of the history does, for one session.
use Rattle.std.proofs.Common.{◌≡◌, ◌≢◌, ◌⊎◌, ℕ, ◌+◌, ◌<◌, ◌≤◌, max, ◌==◌, Bool, true, false, not, ◌||◌, cond, List, [], ◌∷◌, Option, None, Some, nat_lt, nat_le, refl, sym, ap, subst, ◌∙◌, inl, inr, arith}
use Rattle.std.proofs.lemmas.Bool.{cases_lt, ne_eqb, true≢false, or_parts, and_parts, not-false, leb-true}
use Rattle.std.proofs.lemmas.Slice.Eq.{bytes_eq-Decides}
use Rattle.std.specs.Str.{bytes_eq}
use Rattle.wopi_model.specs.declared.locks.Lock.{Lock}
use Rattle.wopi_model.specs.declared.calls.Act.TheVariants as act
use Rattle.wopi_model.specs.declared.calls.Act.{Act}
use Rattle.wopi_model.specs.declared.locks.LockAct.{LockAct}
use Rattle.wopi_model.specs.declared.locks.Spent.{Spent}
use Rattle.wopi_model.specs.Token.{is_live}
use Rattle.wopi_model.specs.Safety.{Presents, IsSpentUntil}
use Rattle.wopi_model.specs.declared.calls.Call.{Call}
use Rattle.wopi_model.specs.declared.calls.Ruling.{Ruling}
use Rattle.wopi_model.specs.File.{File, exists}
use Rattle.wopi_model.specs.Settle.{is_over, standing, expired, with_spent, still_spent, settled}
use Rattle.wopi_model.specs.LockTable.{verdict, spent_by}
use Rattle.wopi_model.specs.Act.{lock_act, presents_spent, is_create}
use Rattle.wopi_model.specs.Step.{Decision, Refuse, Conflict, Accept, is_unauthorized, is_missing, lacks_right, is_too_large, decision, ruling_of, file_of, after_step, effect, IsOutcome}
use Rattle.wopi_model.specs.Shard.{Shard, Tick, Step, Entry, at_moment, after_entry}
use Rattle.wopi_model.specs.Shard as run
use Rattle.wopi_world.specs.History.{Item, Ran, Restarted, reopened, restarted, happens, IsAllowed}
use Rattle.wopi_model.proofs.Soundness.{same_bytes}
use Rattle.wopi_model.proofs.Replacing.{acceptance-status}
use Rattle.wopi_model.proofs.Ended.{accepted_if, ended-entry, ended-happens}
use Rattle.save_session.specs.LockIds.{lock_id}
use Rattle.wopi_world.specs.Requests.{Client, Sent, call_of, PresentsNone}
use Rattle.wopi_world.specs.Safe.{contents_in, IsSave, IsNoSave, IsUnlock, moment_of, Expires, Unlocks, Drops, Ends, IsRestart}
use Rattle.wopi_world.specs.Sessions.{IsDead, IsUse}
use Rattle.wopi_world.proofs.Held.{held_id, others_out, accepted-status, HasGone, Under, IsOut, Stage, IsOther, Acts, stays_out, takes, keeps, saves, relocks, frees, same_holder, not_both, gone-settled, HasExpired, under-settled, standing_was, out-settled}
use Rattle.wopi_world.proofs.Acting.{Comes, by_other, by_session, IsOther-from, nothing, there_after, accepted_acts}

-- either nothing happens and 200 isn't told, or the act goes through

same_either : {T : Type 0} (b : Bool) (x : T) → cond b x x ≡ x
same_either true x = refl
same_either false x = refl

abbrev pub Stepped : File → Call → ℕ → ℕ → Ruling → Type 0
Stepped file call opened now ruling =
    ((after_step file call opened now ruling ≡ file) × (ruling.status ≢ 200))
    ⊎ ((decision file call opened now ≡ Accept) × (ruling ≡ ruling_of Accept file call now) × (after_step file call opened now ruling ≡ effect file call now))

not_200 : (file : File) (call : Call) (opened now : ℕ) (ruling : Ruling) → ruling ≡ ruling_of (decision file call opened now) file call now →
    (decision file call opened now ≡ Accept → ⊥) → ruling.status ≢ 200
not_200 file call opened now ruling told no_accept s =
    no_accept (accepted_if (is_unauthorized call opened now) (is_missing file call.act) (lacks_right call) (is_too_large file call.act)
    (verdict file.lock (presents_spent file.spent call.act) (lock_act file call.act)) file call now (sym (ap (λ (r : Ruling). r.status) told) ∙ s)).1

stepped_as : (file : File) (call : Call) (opened now : ℕ) (ruling : Ruling) (d : Decision) → decision file call opened now ≡ d →
    ruling ≡ ruling_of (decision file call opened now) file call now → Stepped file call opened now ruling
stepped_as file call opened now ruling (Refuse status) e told =
    inl (
      ap (λ (x : Decision). cond (ruling.status == 500) file (file_of x file call now)) e ∙ same_either (ruling.status == 500) file,
      not_200 file call opened now ruling told (λ a. let bad : Refuse status ≡ Accept = sym e ∙ a in cc),
    )
stepped_as file call opened now ruling (Conflict reason) e told =
    inl (
      ap (λ (x : Decision). cond (ruling.status == 500) file (file_of x file call now)) e ∙ same_either (ruling.status == 500) file,
      not_200 file call opened now ruling told (λ a. let bad : Conflict reason ≡ Accept = sym e ∙ a in cc),
    )
stepped_as file call opened now ruling Accept e told =
    let r : ruling ≡ ruling_of Accept file call now = told ∙ ap (λ (x : Decision). ruling_of x file call now) e in
    let s : ruling.status ≡ 200 = ap (λ (x : Ruling). x.status) r ∙ acceptance-status call.act (effect file call now) in
    let no_fault : (ruling.status == 500) ≡ false = ne_eqb ruling.status 500 (λ f. absurd (omega (arith, f, s))) in
    inr (e, r, ap (λ (x : Decision). cond (ruling.status == 500) file (file_of x file call now)) e ∙ ap (λ (b : Bool). cond b file (effect file call now)) no_fault)

pub stepped : (file : File) (call : Call) (opened now : ℕ) (ruling : Ruling) → IsOutcome file call opened now ruling → Stepped file call opened now ruling
stepped file call opened now ruling (inl told) = stepped_as file call opened now ruling (decision file call opened now) refl told
stepped file call opened now ruling (inr fault) =
    let s : ruling.status ≡ 500 = ap (λ (r : Ruling). r.status) fault.2 in
    inl (ap (λ (n : ℕ). cond (n == 500) file (file_of (decision file call opened now) file call now)) s, λ t. absurd (omega (arith, s, t)))

-- a call on the session's own file

abbrev There : File → Type 0
There file = (lock : Lock) → file.lock ≡ Some lock → exists file ≡ true

IsOther-unaccepted : (client : Client) (call : Call) (status : ℕ) → status ≢ 200 → IsOther client call status
IsOther-unaccepted client call status not = (λ j d s. not s.2, λ j s. not s.2)

step_acts : (client : Client) (opened now : ℕ) (file : File) (call : Call) (ruling : Ruling) → Stage client now file → Comes client now file call → call.name ≡ client.token.file →
    IsOutcome file call opened now ruling →
    Acts client now file (after_step file call opened now ruling) call ruling.status × There (after_step file call opened now ruling)
step_acts client opened now file call ruling s comes here outcome =
    elim (stepped file call opened now ruling outcome) [
      | inl same ↦ (
        subst (λ (f : File). Acts client now file f call ruling.status) (sym same.0) (nothing client now file call ruling.status s (IsOther-unaccepted client call ruling.status same.1)),
        subst There (sym same.0) s.there,
      )
      | inr went ↦
          let told : ruling.status ≡ 200 = ap (λ (r : Ruling). r.status) went.1 ∙ acceptance-status call.act (effect file call now) in (
            subst (λ (n : ℕ). Acts client now file (after_step file call opened now ruling) call n) (sym told)
                (subst (λ (f : File). Acts client now file f call 200) (sym went.2) (accepted_acts client opened now file call s comes here went.0)),
            subst There (sym went.2) (there_after file call opened now went.0),
          )
    ]

-- an entry, on the session's file

abbrev pub own_file : Client → Shard → File
own_file client shard = shard.files client.token.file

entry_acts : (client : Client) (at : Shard) (entry : Entry) → Stage client at.now (own_file client at) → Comes client at.now (own_file client at) entry.call →
    IsOutcome (at.files entry.call.name) entry.call at.opened at.now entry.ruling →
    Acts client at.now (own_file client at) (own_file client (after_entry at entry)) entry.call entry.ruling.status × There (own_file client (after_entry at entry))
entry_acts client at entry s comes outcome =
    let name = client.token.file in
    let call = entry.call in
    let new_file = after_step (at.files call.name) call at.opened at.now entry.ruling in
    elim (bytes_eq call.name name) as (λ b. bytes_eq call.name name ≡ b →
    Acts client at.now (at.files name) (cond b new_file (at.files name)) call entry.ruling.status × There (cond b new_file (at.files name))) [
      | true ↦ λ e.
          let same = same_bytes call.name name e in
          let out : IsOutcome (at.files name) call at.opened at.now entry.ruling = subst (λ (n : List ℕ). IsOutcome (at.files n) call at.opened at.now entry.ruling) same outcome in
          subst (λ (n : List ℕ). Acts client at.now (at.files name) (after_step (at.files n) call at.opened at.now entry.ruling) call entry.ruling.status
          × There (after_step (at.files n) call at.opened at.now entry.ruling)) (sym same) (step_acts client at.opened at.now (at.files name) call entry.ruling s comes same out)
      | false ↦ λ e.
          let apart : call.name ≢ name = λ same. true≢false (sym ((bytes_eq-Decides call.name name).1 same) ∙ e) in
          (nothing client at.now (at.files name) call entry.ruling.status s (λ j d h. apart h.0, λ j h. apart h.0), s.there)
    ] refl

-- a file with a lock is there after an entry too
there_step : (opened now : ℕ) (file : File) (call : Call) (ruling : Ruling) → There file → IsOutcome file call opened now ruling → There (after_step file call opened now ruling)
there_step opened now file call ruling there outcome =
    elim (stepped file call opened now ruling outcome) [
      | inl same ↦ subst There (sym same.0) there
      | inr went ↦ subst There (sym went.2) (there_after file call opened now went.0)
    ]

there-entry : (client : Client) (at : Shard) (entry : Entry) → There (own_file client at) →
    IsOutcome (at.files entry.call.name) entry.call at.opened at.now entry.ruling → There (own_file client (after_entry at entry))
there-entry client at entry there outcome =
    let name = client.token.file in
    let call = entry.call in
    let new_file = after_step (at.files call.name) call at.opened at.now entry.ruling in
    elim (bytes_eq call.name name) as (λ b. bytes_eq call.name name ≡ b → There (cond b new_file (at.files name))) [
      | true ↦ λ e. there_step at.opened at.now (at.files call.name) call entry.ruling (subst (λ (n : List ℕ). There (at.files n)) (sym (same_bytes call.name name e)) there) outcome
      | false ↦ λ e. there
    ] refl

-- who calls, where the session's token may be dead

abbrev pub IsBy : Client → Call → Type 0
IsBy client call = PresentsNone client call ⊎ ((op : Sent) × (call ≡ call_of client op))

who : (client : Client) (now : ℕ) (file : File) (call : Call) → Comes client now file call → IsBy client call
who client now file call (by_other other) = inl other
who client now file call (by_session op same ready) = inr (op, same)

pub accepted_live : (file : File) (call : Call) (opened now : ℕ) → decision file call opened now ≡ Accept → opened ≤ call.token.issued
accepted_live file call opened now h =
    let passed = (accepted_if (is_unauthorized call opened now) (is_missing file call.act) (lacks_right call) (is_too_large file call.act)
    (verdict file.lock (presents_spent file.spent call.act) (lock_act file call.act)) file call now (accepted-status file call opened now h)).0 in
    let parts = or_parts (not (is_live call.token opened now)) (not (is_create call.act || bytes_eq call.token.file call.name)) passed in
    let live = not-false (is_live call.token opened now) parts.0 in
    leb-true opened call.token.issued (and_parts (nat_lt now call.token.expires) (nat_le opened call.token.issued) live).1

-- while the token is dead, nothing is taken and nothing saved
abbrev Rests : Client → File → Call → ℕ → Type 0
Rests client after call status = IsOut client after × IsOther client call status

dead_step : (client : Client) (opened now : ℕ) (file : File) (call : Call) (ruling : Ruling) → IsOut client file → client.token.issued < opened → IsBy client call →
    call.name ≡ client.token.file → IsOutcome file call opened now ruling → Rests client (after_step file call opened now ruling) call ruling.status
dead_step client opened now file call ruling out dead by here outcome =
    elim (stepped file call opened now ruling outcome) [
      | inl same ↦ (subst (IsOut client) (sym same.0) out, IsOther-unaccepted client call ruling.status same.1)
      | inr went ↦ elim by [
        | inl other ↦ (
          subst (IsOut client) (sym went.2) (λ number e. others_out client file.lock file call.act call.token.expires now number (out number) (other here number) e),
          IsOther-from client call ruling.status (other here),
        )
        | inr own ↦
            let live = accepted_live file call opened now went.0 in
            let issued : call.token.issued ≡ client.token.issued = ap (λ (c : Call). c.token.issued) own.1 in
            absurd (omega (arith, live, issued, dead))
      ]
    ]

dead_entry : (client : Client) (at : Shard) (entry : Entry) → IsOut client (own_file client at) → client.token.issued < at.opened → IsBy client entry.call →
    IsOutcome (at.files entry.call.name) entry.call at.opened at.now entry.ruling → Rests client (own_file client (after_entry at entry)) entry.call entry.ruling.status
dead_entry client at entry out dead by outcome =
    let name = client.token.file in
    let call = entry.call in
    let new_file = after_step (at.files call.name) call at.opened at.now entry.ruling in
    elim (bytes_eq call.name name) as (λ b. bytes_eq call.name name ≡ b → Rests client (cond b new_file (at.files name)) call entry.ruling.status) [
      | true ↦ λ e.
          let same = same_bytes call.name name e in
          let here : IsOut client (at.files call.name) = subst (λ (n : List ℕ). IsOut client (at.files n)) (sym same) out in
          dead_step client at.opened at.now (at.files call.name) call entry.ruling here dead by same outcome
      | false ↦ λ e.
          let apart : call.name ≢ name = λ same. true≢false (sym ((bytes_eq-Decides call.name name).1 same) ∙ e) in
          (out, (λ j d h. apart h.0, λ j h. apart h.0))
    ] refl

-- whether an id of the session stands, or is spent for as long as its token lives
abbrev pub HasMark : Client → File → Type 0
HasMark client file =
    (number : ℕ) × ((held_id file.lock ≡ Some (lock_id client.nonce number)) ⊎ IsSpentUntil file.spent (lock_id client.nonce number) client.token.expires)

still-was : (spent : List Spent) (now : ℕ) (id : List ℕ) (moment : ℕ) → IsSpentUntil (still_spent spent now) id moment → IsSpentUntil spent id moment
still-was [] now id moment h = h
still-was (one ∷ spent) now id moment h =
    (elim (nat_lt now one.until) as (λ b. IsSpentUntil (cond b (one ∷ still_spent spent now) (still_spent spent now)) id moment → IsSpentUntil (one ∷ spent) id moment) [
      | true ↦ λ x. elim x [ inl here ↦ inl here | inr there ↦ inr (still-was spent now id moment there) ]
      | false ↦ λ x. inr (still-was spent now id moment x)
    ]) h

expired-was : (lock : Option Lock) (now : ℕ) (spent : List Spent) (id : List ℕ) (moment : ℕ) → IsSpentUntil (with_spent (expired lock now) spent) id moment →
    (held_id lock ≡ Some id) ⊎ IsSpentUntil spent id moment
expired-was None now spent id moment h = inr h
expired-was (Some lock) now spent id moment h =
    (elim (is_over lock now) as (λ b. IsSpentUntil (with_spent (cond b (Some (record { id = lock.id; until = lock.until })) None) spent) id moment →
    (Some lock.id ≡ Some id) ⊎ IsSpentUntil spent id moment) [
      | true ↦ λ x. elim x [ inl here ↦ inl (ap (λ (y : List ℕ). Some y) here.0) | inr there ↦ inr there ]
      | false ↦ λ x. inr x
    ]) h

held-was : (file : File) (later : ℕ) (id : List ℕ) (lock : Option Lock) → standing file.lock later ≡ lock → held_id lock ≡ Some id → held_id file.lock ≡ Some id
held-was file later id None e h = cc
held-was file later id (Some lock) e h = ap held_id (standing_was file.lock later lock e) ∙ h

mark-settled : (client : Client) (file : File) (later : ℕ) → HasMark client (settled file later) → HasMark client file
mark-settled client file later (number, inl held) = (number, inl (held-was file later (lock_id client.nonce number) (standing file.lock later) refl held))
mark-settled client file later (number, inr spent) = (
  number,
  expired-was file.lock later file.spent (lock_id client.nonce number) client.token.expires
      (still-was (with_spent (expired file.lock later) file.spent) later (lock_id client.nonce number) client.token.expires spent),
)

spent_by-was : (lock : Option Lock) (file : File) (asked : Act) (expires : ℕ) (spent : List Spent) (id : List ℕ) (moment : ℕ) →
    IsSpentUntil (with_spent (spent_by lock (lock_act file asked) expires) spent) id moment → (held_id lock ≡ Some id) ⊎ IsSpentUntil spent id moment
spent_by-was None file asked expires spent id moment h = inr (no_lock (lock_act file asked) h)
  where
    no_lock : (a : LockAct) → IsSpentUntil (with_spent (spent_by None a expires) spent) id moment → IsSpentUntil spent id moment
    no_lock a x = x
spent_by-was (Some lock) file act.Info expires spent id moment h = inr h
spent_by-was (Some lock) file (act.Get most) expires spent id moment h = inr h
spent_by-was (Some lock) file (act.Put given contents) expires spent id moment h = inr h
spent_by-was (Some lock) file (act.Lock given) expires spent id moment h = inr h
spent_by-was (Some lock) file act.GetLock expires spent id moment h = inr h
spent_by-was (Some lock) file (act.Refresh given) expires spent id moment h = inr h
spent_by-was (Some lock) file (act.Unlock given) expires spent id moment h =
    elim h [ inl here ↦ inl (ap (λ (y : List ℕ). Some y) here.0) | inr there ↦ inr there ]
spent_by-was (Some lock) file (act.Relock old given) expires spent id moment h =
    (elim (bytes_eq old given) as (λ b. IsSpentUntil (with_spent (cond b None (Some (record { id = lock.id; until = max lock.until expires }))) spent) id moment →
    (Some lock.id ≡ Some id) ⊎ IsSpentUntil spent id moment) [
      | true ↦ λ x. inr x
      | false ↦ λ x. elim x [ inl here ↦ inl (ap (λ (y : List ℕ). Some y) here.0) | inr there ↦ inr there ]
    ]) h
spent_by-was (Some lock) file act.Look expires spent id moment h = inr h
spent_by-was (Some lock) file (act.Create overwrite contents) expires spent id moment h = inr h
spent_by-was (Some lock) file act.Delete expires spent id moment h = inr h

-- the call was accepted under the session's token
abbrev pub IsUseBy : Client → Call → ℕ → Type 0
IsUseBy client call status = (call.token ≡ client.token) × (status ≡ 200)

-- somebody else's accepted act makes no mark
mark-others : (client : Client) (file : File) (call : Call) (now : ℕ) → ((number : ℕ) → Presents call.act (lock_id client.nonce number) → ⊥) →
    HasMark client (effect file call now) → HasMark client file
mark-others client file call now other (number, inr spent) =
    (number, spent_by-was file.lock file call.act call.token.expires file.spent (lock_id client.nonce number) client.token.expires spent)
mark-others client file call now other (number, inl held) = (number, inl (was (held_id file.lock) refl))
  where
    id : List ℕ
    id = lock_id client.nonce number

    same_or : (x : Option (List ℕ)) → held_id file.lock ≡ x → (held_id file.lock ≡ Some id) ⊎ ((held_id file.lock ≡ Some id) → ⊥)
    same_or None e = inr (λ s. let bad : None ≡ Some id = sym e ∙ s in cc)
    same_or (Some y) e = elim (bytes_eq y id) as (λ b. bytes_eq y id ≡ b → (held_id file.lock ≡ Some id) ⊎ ((held_id file.lock ≡ Some id) → ⊥)) [
      | true ↦ λ t. inl (e ∙ ap (λ (z : List ℕ). Some z) (same_bytes y id t))
      | false ↦ λ f. inr (λ s. let both : Some y ≡ Some id = sym e ∙ s in let one : y ≡ id = cc in true≢false (sym ((bytes_eq-Decides y id).1 one) ∙ f))
    ] refl

    was : (x : Option (List ℕ)) → held_id file.lock ≡ x → held_id file.lock ≡ Some id
    was x e = elim (same_or x e) [ inl stood ↦ stood | inr apart ↦ absurd (others_out client file.lock file call.act call.token.expires now number apart (other number) held) ]

mark-step : (client : Client) (opened now : ℕ) (file : File) (call : Call) (ruling : Ruling) → IsBy client call → call.name ≡ client.token.file → IsOutcome file call opened now ruling →
    HasMark client (after_step file call opened now ruling) → HasMark client file ⊎ IsUseBy client call ruling.status
mark-step client opened now file call ruling by here outcome m =
    elim (stepped file call opened now ruling outcome) [
      | inl same ↦ inl (subst (HasMark client) same.0 m)
      | inr went ↦ elim by [
        | inl other ↦ inl (mark-others client file call now (other here) (subst (HasMark client) went.2 m))
        | inr own ↦ inr (ap (λ (c : Call). c.token) own.1, ap (λ (r : Ruling). r.status) went.1 ∙ acceptance-status call.act (effect file call now))
      ]
    ]

mark-entry : (client : Client) (at : Shard) (entry : Entry) → IsBy client entry.call → IsOutcome (at.files entry.call.name) entry.call at.opened at.now entry.ruling →
    HasMark client (own_file client (after_entry at entry)) → HasMark client (own_file client at) ⊎ IsUseBy client entry.call entry.ruling.status
mark-entry client at entry by outcome m =
    let name = client.token.file in
    let call = entry.call in
    let new_file = after_step (at.files call.name) call at.opened at.now entry.ruling in
    (elim (bytes_eq call.name name) as (λ b. bytes_eq call.name name ≡ b → HasMark client (cond b new_file (at.files name)) →
    HasMark client (at.files name) ⊎ IsUseBy client call entry.ruling.status) [
      | true ↦ λ e x. subst (λ (n : List ℕ). HasMark client (at.files n) ⊎ IsUseBy client call entry.ruling.status) (same_bytes call.name name e)
          (mark-step client at.opened at.now (at.files call.name) call entry.ruling by (same_bytes call.name name e) outcome x)
      | false ↦ λ e x. inl x
    ]) refl m

-- the whole item, with the passing of time before it

abbrev pub IsUnder : Client → ℕ → Shard → Type 0
IsUnder client m shard = Under client m shard.now (own_file client shard)

abbrev pub IsOutside : Client → Shard → Type 0
IsOutside client shard = IsOut client (own_file client shard)

-- the session's id of that number can't be used any more
abbrev pub IsGone : Client → ℕ → Shard → Type 0
IsGone client j shard = HasGone client j shard.now (own_file client shard) ⊎ IsDead client shard

pub record IsStaged (client : Client) (shard : Shard) : Type 0 where
  pub stage : ((number : ℕ) × IsUnder client number shard) ⊎ IsOutside client shard
  pub there : There (own_file client shard)
  pub dead : IsDead client shard → IsOutside client shard
  pub opened : shard.opened ≤ shard.now

as_stage : (client : Client) (shard : Shard) → IsStaged client shard → Stage client shard.now (own_file client shard)
as_stage client shard s = record { stage = s.stage; there = s.there }

abbrev pub SameContents : Client → Shard → Item → Type 0
SameContents client shard item = contents_in client (happens shard item) ≡ contents_in client shard

pub data Moves (client : Client) (shard : Shard) (item : Item) : Type 0 where
  remains_out : IsOutside client shard → IsOutside client (happens shard item) → IsNoSave client item →
      ((j : ℕ) → IsGone client j shard → IsGone client j (happens shard item)) → Moves client shard item
  taken : IsOutside client shard → (IsGone client 1 shard → ⊥) → IsUnder client 1 (happens shard item) → IsNoSave client item → Moves client shard item
  kept : (m : ℕ) → IsUnder client m shard → IsUnder client m (happens shard item) → SameContents client shard item → IsNoSave client item →
      (Ends client shard item → ⊥) → Moves client shard item
  saved : (m : ℕ) (contents : List ℕ) → IsUnder client m shard → IsUnder client m (happens shard item) →
      contents_in client (happens shard item) ≡ Some contents → IsSave client m contents item → (Ends client shard item → ⊥) → Moves client shard item
  relocked : (m : ℕ) → IsUnder client m shard → IsUnder client (m + 1) (happens shard item) → SameContents client shard item → IsNoSave client item →
      (Ends client shard item → ⊥) → Moves client shard item
  ended : (m : ℕ) → IsUnder client m shard → IsOutside client (happens shard item) → IsGone client 1 (happens shard item) → IsGone client m (happens shard item) →
      IsNoSave client item → Expires client shard item ⊎ (SameContents client shard item × (Unlocks client shard item ⊎ Drops client shard item)) → Moves client shard item

abbrev pub ComesAt : Client → Shard → Item → Type 0
ComesAt client shard (Ran (Tick moment)) = Unit {0}
ComesAt client shard (Ran (Step entry)) =
    let at = at_moment shard entry.moment in
    Comes client at.now (own_file client at) entry.call ⊎ (IsDead client shard × (op : Sent) × (entry.call ≡ call_of client op))
ComesAt client shard (Restarted moment first) = (shard.now < moment) × (HasMark client (own_file client shard) → client.token.issued < moment)

by_at : (client : Client) (shard : Shard) (entry : Entry) → ComesAt client shard (Ran (Step entry)) → IsBy client entry.call
by_at client shard entry (inl comes) = who client (max shard.now entry.moment) (own_file client (at_moment shard entry.moment)) entry.call comes
by_at client shard entry (inr dead) = inr (dead.1, dead.2)

-- the stage is kept

there-settled : (file : File) (later : ℕ) → There file → There (settled file later)
there-settled file later there lock h = there lock (standing_was file.lock later lock h)

pub staged-at_moment : (client : Client) (shard : Shard) (moment : ℕ) → IsStaged client shard → IsStaged client (at_moment shard moment)
staged-at_moment client shard moment s =
    let later = max shard.now moment in
    let file = own_file client shard in
    record {
      stage = elim s.stage [
        | inl held ↦ elim (under-settled client held.0 shard.now later file (omega arith) held.1) [ inl still ↦ inl (held.0, still.0) | inr over ↦ inr over.1.out ]
        | inr out ↦ inr (out-settled client later file out)
      ];
      there = there-settled file later s.there;
      dead = λ d. out-settled client later file (s.dead d);
      opened = let le = s.opened in omega (arith, le);
    }

staged-acts : (client : Client) (now : ℕ) (before after : File) (call : Call) (status : ℕ) → Acts client now before after call status → There after → Stage client now after
staged-acts client now before after call status (stays_out b a n) there = record { stage = inr a; there = there }
staged-acts client now before after call status (takes b g a n) there = record { stage = inl (1, a); there = there }
staged-acts client now before after call status (keeps m b a c n) there = record { stage = inl (m, a); there = there }
staged-acts client now before after call status (saves m d b a c n) there = record { stage = inl (m, a); there = there }
staged-acts client now before after call status (relocks m b a c n) there = record { stage = inl (m + 1, a); there = there }
staged-acts client now before after call status (frees m b a g c n) there = record { stage = inr a; there = there }

-- an entry whose token lives comes by it
alive_comes : (client : Client) (shard : Shard) (entry : Entry) → (IsDead client shard → ⊥) → ComesAt client shard (Ran (Step entry)) →
    Comes client (max shard.now entry.moment) (own_file client (at_moment shard entry.moment)) entry.call
alive_comes client shard entry alive (inl comes) = comes
alive_comes client shard entry alive (inr dead) = absurd (alive dead.0)

-- the file that a restart leaves
no_lock_reopened : (first : ℕ) (contents : Option (List ℕ)) → (reopened first contents).lock ≡ None
no_lock_reopened first None = refl
no_lock_reopened first (Some bytes) = refl

no_spent_reopened : (first : ℕ) (contents : Option (List ℕ)) → (reopened first contents).spent ≡ []
no_spent_reopened first None = refl
no_spent_reopened first (Some bytes) = refl

pub same_reopened : (first : ℕ) (contents : Option (List ℕ)) → (reopened first contents).contents ≡ contents
same_reopened first None = refl
same_reopened first (Some bytes) = refl

pub out-restarted : (client : Client) (shard : Shard) (moment first : ℕ) → IsOutside client (restarted shard moment first)
out-restarted client shard moment first number h =
    let bad : None ≡ Some (lock_id client.nonce number) = sym (ap held_id (no_lock_reopened first (own_file client shard).contents)) ∙ h in
    cc

-- what is gone stays gone at a restart: where it isn't by time, its token is dead
gone-restarted : (client : Client) (shard : Shard) (moment first : ℕ) → ComesAt client shard (Restarted moment first) → (j : ℕ) → IsGone client j shard →
    shard.opened ≤ shard.now → IsGone client j (restarted shard moment first)
gone-restarted client shard moment first comes j (inl (inl past)) le = let later = comes.0 in inl (inl (omega (arith, past, later)))
gone-restarted client shard moment first comes j (inl (inr spent)) le = inr (comes.1 (j, inr spent))
gone-restarted client shard moment first comes j (inr dead) le = let later = comes.0 in inr (omega (arith, dead, later, le))

pub staged-happens : (client : Client) (shard : Shard) (item : Item) → IsStaged client shard → IsAllowed shard item → ComesAt client shard item → IsStaged client (happens shard item)
staged-happens client shard (Ran (Tick moment)) s allowed comes = staged-at_moment client shard moment s
staged-happens client shard (Ran (Step entry)) s allowed comes =
    let at = at_moment shard entry.moment in
    let at_s = staged-at_moment client shard entry.moment s in
    elim (cases_lt client.token.issued shard.opened) [
      | inl dead ↦
          let rests = dead_entry client at entry (at_s.dead dead) dead (by_at client shard entry comes) allowed in
          record { stage = inr rests.0; there = there-entry client at entry at_s.there allowed; dead = λ d. rests.0; opened = opened-entry }
      | inr alive ↦
          let acts = entry_acts client at entry (as_stage client at at_s) (alive_comes client shard entry (λ d. absurd (omega (arith, d, alive))) comes) allowed in
          let after = staged-acts client at.now (own_file client at) (own_file client (after_entry at entry)) entry.call entry.ruling.status acts.0 acts.1 in
          record { stage = after.stage; there = after.there; dead = λ d. absurd (omega (arith, d, alive)); opened = opened-entry }
    ]
  where
    opened-entry : shard.opened ≤ max shard.now entry.moment
    opened-entry = let le = s.opened in omega (arith, le)
staged-happens client shard (Restarted moment first) s allowed comes =
    let out = out-restarted client shard moment first in
    record {
      stage = inr out;
      there = λ lock h. let bad : None ≡ Some lock = sym (no_lock_reopened first (own_file client shard).contents) ∙ h in cc;
      dead = λ d. out;
      opened = omega arith;
    }

-- while the lock stands, and isn't unlocked, it doesn't end
not_ended : (client : Client) (shard : Shard) (item : Item) (m : ℕ) → (u : IsUnder client m shard) → is_over u.lock (max shard.now (moment_of item)) ≡ false →
    ((j : ℕ) → IsUnlock client j item → ⊥) → (IsRestart item → ⊥) → Ends client shard item → ⊥
not_ended client shard item m u stands no_unlock runs (inl expires) =
    let locks : u.lock ≡ expires.1 = cc (u.stands, expires.2.0) in
    true≢false (sym (subst (λ (l : Lock). is_over l (max shard.now (moment_of item)) ≡ true) (sym locks) expires.3) ∙ stands)
not_ended client shard item m u stands no_unlock runs (inr (inl unlocks)) = no_unlock unlocks.0 unlocks.3
not_ended client shard item m u stands no_unlock runs (inr (inr drops)) = runs drops.3

-- in a run what is gone stays gone
pub gone-ran : (client : Client) (j : ℕ) (shard : Shard) (item : run.Item) → IsGone client j shard → IsGone client j (run.happens shard item)
gone-ran client j shard item (inl gone) = inl (ended-happens client.token.file (lock_id client.nonce j) client.token.expires shard item gone)
gone-ran client j shard (Tick moment) (inr dead) = inr dead
gone-ran client j shard (Step entry) (inr dead) = inr dead

from_standing : (client : Client) (shard : Shard) (entry : Entry) (m : ℕ) → (u : IsUnder client m shard) → is_over u.lock (max shard.now entry.moment) ≡ false →
    IsUnder client m (at_moment shard entry.moment) →
    Acts client (max shard.now entry.moment) (own_file client (at_moment shard entry.moment)) (own_file client (happens shard (Ran (Step entry)))) entry.call entry.ruling.status →
    Moves client shard (Ran (Step entry))
from_standing client shard entry m u stands at_u (stays_out b a n) = absurd (not_both client (max shard.now entry.moment) (own_file client (at_moment shard entry.moment)) m at_u b)
from_standing client shard entry m u stands at_u (takes b g a n) = absurd (not_both client (max shard.now entry.moment) (own_file client (at_moment shard entry.moment)) m at_u b)
from_standing client shard entry m u stands at_u (keeps i b a c n) =
    let now = max shard.now entry.moment in
    let same = same_holder client now now (own_file client (at_moment shard entry.moment)) i m b at_u in
    kept m u (subst (λ (k : ℕ). IsUnder client k (happens shard (Ran (Step entry)))) same a) c n.0 (not_ended client shard (Ran (Step entry)) m u stands n.1 (λ x. x))
from_standing client shard entry m u stands at_u (saves i d b a c n) =
    let now = max shard.now entry.moment in
    let same = same_holder client now now (own_file client (at_moment shard entry.moment)) i m b at_u in
    saved m d u (subst (λ (k : ℕ). IsUnder client k (happens shard (Ran (Step entry)))) same a) c (subst (λ (k : ℕ). IsSave client k d (Ran (Step entry))) same n)
    (not_ended client shard (Ran (Step entry)) m u stands (λ j h. let bad : act.Put (Some (lock_id client.nonce i)) d ≡ act.Unlock (lock_id client.nonce j) = sym n.1 ∙ h.1 in cc) (λ x. x))
from_standing client shard entry m u stands at_u (relocks i b a c n) =
    let now = max shard.now entry.moment in
    let same = same_holder client now now (own_file client (at_moment shard entry.moment)) i m b at_u in
    relocked m u (subst (λ (k : ℕ). IsUnder client (k + 1) (happens shard (Ran (Step entry)))) same a) c n.0 (not_ended client shard (Ran (Step entry)) m u stands n.1 (λ x. x))
from_standing client shard entry m u stands at_u (frees i b a g c n) =
    let now = max shard.now entry.moment in
    let at = at_moment shard entry.moment in
    let same = same_holder client now now (own_file client at) i m b at_u in
    let gone : HasGone client m now (own_file client (happens shard (Ran (Step entry)))) = subst (λ (k : ℕ). HasGone client k now (own_file client (happens shard (Ran (Step entry))))) same g in
    let first : HasGone client 1 now (own_file client (happens shard (Ran (Step entry)))) = elim (cases_lt 1 m) [
      | inl more ↦ ended-entry client.token.file (lock_id client.nonce 1) client.token.expires at entry (at_u.lower 1 (omega arith) more)
      | inr one ↦ let is_one : m ≡ 1 = omega (arith, one, u.counted) in subst (λ (k : ℕ). HasGone client k now (own_file client (happens shard (Ran (Step entry))))) is_one gone
    ] in
    ended m u a (inl first) (inl gone) (λ j d h. let bad : act.Put (Some (lock_id client.nonce j)) d ≡ act.Unlock (lock_id client.nonce i) = sym h.1 ∙ n.1 in cc)
    (inr (c, inl (m, u.lock, (u.stands, u.own), subst (λ (k : ℕ). IsUnlock client k (Ran (Step entry))) same n)))

from_expired : (client : Client) (shard : Shard) (entry : Entry) (m : ℕ) → (u : IsUnder client m shard) → is_over u.lock (max shard.now entry.moment) ≡ true →
    HasExpired client m (max shard.now entry.moment) (own_file client shard) →
    Acts client (max shard.now entry.moment) (own_file client (at_moment shard entry.moment)) (own_file client (happens shard (Ran (Step entry)))) entry.call entry.ruling.status →
    Moves client shard (Ran (Step entry))
from_expired client shard entry m u over x (stays_out b a n) =
    let at = at_moment shard entry.moment in
    let after_one = ended-entry client.token.file (lock_id client.nonce 1) client.token.expires at entry (x.all 1 (omega arith) u.counted) in
    let after_m = ended-entry client.token.file (lock_id client.nonce m) client.token.expires at entry (x.all m u.counted (omega arith)) in
    ended m u a (inl after_one) (inl after_m) n (inl (m, u.lock, (u.stands, u.own), over))
from_expired client shard entry m u over x (takes b g a n) = absurd (g (x.all 1 (omega arith) u.counted))
from_expired client shard entry m u over x (keeps i b a c n) = absurd (not_both client (max shard.now entry.moment) (own_file client (at_moment shard entry.moment)) i b x.out)
from_expired client shard entry m u over x (saves i d b a c n) = absurd (not_both client (max shard.now entry.moment) (own_file client (at_moment shard entry.moment)) i b x.out)
from_expired client shard entry m u over x (relocks i b a c n) = absurd (not_both client (max shard.now entry.moment) (own_file client (at_moment shard entry.moment)) i b x.out)
from_expired client shard entry m u over x (frees i b a g c n) = absurd (not_both client (max shard.now entry.moment) (own_file client (at_moment shard entry.moment)) i b x.out)

from_outside : (client : Client) (shard : Shard) (entry : Entry) → (IsDead client shard → ⊥) → IsOutside client shard →
    Acts client (max shard.now entry.moment) (own_file client (at_moment shard entry.moment)) (own_file client (happens shard (Ran (Step entry)))) entry.call entry.ruling.status →
    Moves client shard (Ran (Step entry))
from_outside client shard entry alive out (stays_out b a n) = remains_out out a n (λ j gone. gone-ran client j shard (Step entry) gone)
from_outside client shard entry alive out (takes b g a n) =
    taken out (λ gone. elim gone [
      | inl ends ↦ g (gone-settled client 1 shard.now (max shard.now entry.moment) (own_file client shard) (omega arith) ends)
      | inr dead ↦ alive dead
    ]) a n.0
from_outside client shard entry alive out (keeps i b a c n) =
    absurd (not_both client (max shard.now entry.moment) (own_file client (at_moment shard entry.moment)) i b (out-settled client (max shard.now entry.moment) (own_file client shard) out))
from_outside client shard entry alive out (saves i d b a c n) =
    absurd (not_both client (max shard.now entry.moment) (own_file client (at_moment shard entry.moment)) i b (out-settled client (max shard.now entry.moment) (own_file client shard) out))
from_outside client shard entry alive out (relocks i b a c n) =
    absurd (not_both client (max shard.now entry.moment) (own_file client (at_moment shard entry.moment)) i b (out-settled client (max shard.now entry.moment) (own_file client shard) out))
from_outside client shard entry alive out (frees i b a g c n) =
    absurd (not_both client (max shard.now entry.moment) (own_file client (at_moment shard entry.moment)) i b (out-settled client (max shard.now entry.moment) (own_file client shard) out))

pub moves : (client : Client) (shard : Shard) (item : Item) → IsStaged client shard → IsAllowed shard item → ComesAt client shard item → Moves client shard item
moves client shard (Ran (Tick moment)) s allowed comes =
    let later = max shard.now moment in
    let file = own_file client shard in
    elim s.stage [
      | inl held ↦
          let m : ℕ = held.0 in
          let u : IsUnder client m shard = held.1 in
          elim (under-settled client m shard.now later file (omega arith) u) [
            | inl still ↦ kept m u still.0 refl (λ j d h. h) (not_ended client shard (Ran (Tick moment)) m u still.1 (λ j h. h) (λ x. x))
            | inr over ↦ ended m u over.1.out (inl (over.1.all 1 (omega arith) u.counted)) (inl (over.1.all m u.counted (omega arith))) (λ j d h. h) (inl (m, u.lock, (u.stands, u.own), over.0))
          ]
      | inr out ↦ remains_out out (out-settled client later file out) (λ j d h. h) (λ j gone. gone-ran client j shard (Tick moment) gone)
    ]
moves client shard (Ran (Step entry)) s allowed comes =
    let at = at_moment shard entry.moment in
    let at_s = staged-at_moment client shard entry.moment s in
    let later = max shard.now entry.moment in
    let file = own_file client shard in
    elim (cases_lt client.token.issued shard.opened) [
      | inl dead ↦
          let rests = dead_entry client at entry (at_s.dead dead) dead (by_at client shard entry comes) allowed in
          remains_out (s.dead dead) rests.0 rests.1.0 (λ j gone. gone-ran client j shard (Step entry) gone)
      | inr alive ↦
          let lives : IsDead client shard → ⊥ = λ d. absurd (omega (arith, d, alive)) in
          let acts = (entry_acts client at entry (as_stage client at at_s) (alive_comes client shard entry lives comes) allowed).0 in
          elim s.stage [
            | inl held ↦ elim (under-settled client held.0 shard.now later file (omega arith) held.1) [
              | inl still ↦ from_standing client shard entry held.0 held.1 still.1 still.0 acts
              | inr over ↦ from_expired client shard entry held.0 held.1 over.0 over.1 acts
            ]
            | inr out ↦ from_outside client shard entry lives out acts
          ]
    ]
moves client shard (Restarted moment first) s allowed comes =
    let out = out-restarted client shard moment first in
    elim s.stage [
      | inl held ↦
          let m : ℕ = held.0 in
          let u : IsUnder client m shard = held.1 in
          let dead = comes.1 (m, inl (ap held_id u.stands ∙ ap (λ (x : List ℕ). Some x) u.own)) in
          ended m u out (inr dead) (inr dead) (λ j d h. h) (inr (same_reopened first (own_file client shard).contents, inr (m, u.lock, (u.stands, u.own), tt)))
      | inr was ↦ remains_out was out (λ j d h. h) (λ j gone. gone-restarted client shard moment first comes j gone s.opened)
    ]

-- what is gone stays gone
pub gone-moves : (client : Client) (j : ℕ) (shard : Shard) (item : Item) → Moves client shard item → IsGone client j shard → IsGone client j (happens shard item)
gone-moves client j shard (Ran item) mv gone = gone-ran client j shard item gone
gone-moves client j shard (Restarted moment first) (remains_out b a n k) gone = k j gone
gone-moves client j shard (Restarted moment first) (taken b g a n) gone = absurd (not_both client moment (own_file client (restarted shard moment first)) 1 a (out-restarted client shard moment first))
gone-moves client j shard (Restarted moment first) (kept m b a c n e) gone = absurd (not_both client moment (own_file client (restarted shard moment first)) m a (out-restarted client shard moment first))
gone-moves client j shard (Restarted moment first) (saved m d b a c n e) gone = absurd (not_both client moment (own_file client (restarted shard moment first)) m a (out-restarted client shard moment first))
gone-moves client j shard (Restarted moment first) (relocked m b a c n e) gone = absurd (not_both client moment (own_file client (restarted shard moment first)) (m + 1) a (out-restarted client shard moment first))
gone-moves client j shard (Restarted moment first) (ended m b a (inl (inl past)) h n x) gone = inl (inl past)
gone-moves client j shard (Restarted moment first) (ended m b a (inl (inr spent)) h n x) gone =
    absurd (subst (λ (l : List Spent). IsSpentUntil l (lock_id client.nonce 1) client.token.expires) (no_spent_reopened first (own_file client shard).contents) spent)
gone-moves client j shard (Restarted moment first) (ended m b a (inr dead) h n x) gone = inr dead

-- a mark was there, or the item is an accepted use of the session's token
pub mark-happens : (client : Client) (shard : Shard) (item : Item) → IsAllowed shard item → ComesAt client shard item →
    HasMark client (own_file client (happens shard item)) → HasMark client (own_file client shard) ⊎ IsUse client item
mark-happens client shard (Ran (Tick moment)) allowed comes m = inl (mark-settled client (own_file client shard) (max shard.now moment) m)
mark-happens client shard (Ran (Step entry)) allowed comes m =
    elim (mark-entry client (at_moment shard entry.moment) entry (by_at client shard entry comes) allowed m) [
      | inl old ↦ inl (mark-settled client (own_file client shard) (max shard.now entry.moment) old)
      | inr use_ ↦ inr use_
    ]
mark-happens client shard (Restarted moment first) allowed comes (number, inl held) = absurd (out-restarted client shard moment first number held)
mark-happens client shard (Restarted moment first) allowed comes (number, inr spent) =
    absurd (subst (λ (l : List Spent). IsSpentUntil l (lock_id client.nonce number) client.token.expires) (no_spent_reopened first (own_file client shard).contents) spent)
