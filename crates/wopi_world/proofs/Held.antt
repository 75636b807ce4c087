-- How a session stands to the lock of its file, and what one act does to that.
use Rattle.std.proofs.Common.{◌≡◌, ◌⊎◌, ℕ, ◌+◌, ◌<◌, ◌≤◌, Bool, true, false, not, ◌&&◌, cond, List, Option, None, Some, is_some, refl, sym, ap, subst, ◌∙◌, inl, inr, arith}
use Rattle.std.proofs.lemmas.Bool.{not-false, cases_lt, false_from_ne_true}
use Rattle.std.specs.Str.{bytes_eq}
use Rattle.wopi_model.specs.declared.locks.Verdict.{Verdict}
use Rattle.wopi_model.specs.declared.locks.Verdict.TheVariants as says
use Rattle.wopi_model.specs.declared.locks.LockAct.TheVariants as asks
use Rattle.wopi_model.specs.declared.locks.Lock.{Lock}
use Rattle.wopi_model.specs.declared.calls.Act.TheVariants as act
use Rattle.wopi_model.specs.declared.calls.Act.{Act}
use Rattle.wopi_model.specs.declared.calls.Call.{Call}
use Rattle.wopi_model.specs.File.{File, exists}
use Rattle.wopi_model.specs.Settle.{is_over, standing, expired, with_spent, settled}
use Rattle.wopi_model.specs.LockTable as table
use Rattle.wopi_model.specs.LockTable.{verdict, lock_after, spent_by}
use Rattle.wopi_model.specs.Act.{lock_act, presents_spent}
use Rattle.wopi_model.specs.Step.{Decision, Refuse, Conflict, Accept, is_unauthorized, is_missing, lacks_right, is_too_large, decision, ruling_of, effect, contents_after}
use Rattle.wopi_model.specs.Safety.{Presents, IsSpentUntil}
use Rattle.wopi_model.proofs.Soundness.{same_bytes}
use Rattle.wopi_model.proofs.Replacing.{acceptance-status}
use Rattle.wopi_model.proofs.Ended.{stays-still, stays-with, not_accepted}
use Rattle.save_session.specs.LockIds.{lock_id}
use Rattle.save_session.proofs.Naming.{same_number}
use Rattle.wopi_world.specs.Requests.{Client}

-- no token of the session can use its id of that number any more
abbrev pub HasGone : Client → ℕ → ℕ → File → Type 0
HasGone client number now file = (client.token.expires ≤ now) ⊎ IsSpentUntil file.spent (lock_id client.nonce number) client.token.expires

-- the session's id of that number is held; it will be spent for as long as the session's token lives, and all lower
-- ids are gone
pub record Under (client : Client) (number now : ℕ) (file : File) : Type 0 where
  pub lock : Lock
  pub stands : file.lock ≡ Some lock
  pub own : lock.id ≡ lock_id client.nonce number
  pub long : client.token.expires ≤ lock.until
  pub counted : 1 ≤ number
  pub lower : (j : ℕ) → 1 ≤ j → j < number → HasGone client j now file

abbrev pub held_id : Option Lock → Option (List ℕ)
held_id None = None
held_id (Some lock) = Some lock.id

-- no id of the session is held
abbrev pub IsOut : Client → File → Type 0
IsOut client file = (number : ℕ) → held_id file.lock ≡ Some (lock_id client.nonce number) → ⊥

pub record Stage (client : Client) (now : ℕ) (file : File) : Type 0 where
  pub stage : ((number : ℕ) × Under client number now file) ⊎ IsOut client file
  pub there : (lock : Lock) → file.lock ≡ Some lock → exists file ≡ true

-- the session's id of that number was held at some time
abbrev pub WasHeld : Client → ℕ → ℕ → File → Type 0
WasHeld client number now file = Under client number now file ⊎ HasGone client number now file

abbrev pub IsSaveBy : Client → ℕ → List ℕ → Call → ℕ → Type 0
IsSaveBy client number contents call status =
    (call.name ≡ client.token.file) × (call.act ≡ act.Put (Some (lock_id client.nonce number)) contents) × (status ≡ 200)

abbrev pub IsUnlockBy : Client → ℕ → Call → ℕ → Type 0
IsUnlockBy client number call status =
    (call.name ≡ client.token.file) × (call.act ≡ act.Unlock (lock_id client.nonce number)) × (status ≡ 200)

abbrev pub IsOther : Client → Call → ℕ → Type 0
IsOther client call status =
    ((number : ℕ) (contents : List ℕ) → IsSaveBy client number contents call status → ⊥)
    × ((number : ℕ) → IsUnlockBy client number call status → ⊥)

-- what a call does to a settled file, for one session
pub data Acts (client : Client) (now : ℕ) (before after : File) (call : Call) (status : ℕ) : Type 0 where
  stays_out : IsOut client before → IsOut client after → ((number : ℕ) (contents : List ℕ) → IsSaveBy client number contents call status → ⊥) →
      Acts client now before after call status
  takes : IsOut client before → (HasGone client 1 now before → ⊥) → Under client 1 now after → IsOther client call status →
      Acts client now before after call status
  keeps : (m : ℕ) → Under client m now before → Under client m now after → after.contents ≡ before.contents → IsOther client call status →
      Acts client now before after call status
  saves : (m : ℕ) (contents : List ℕ) → Under client m now before → Under client m now after → after.contents ≡ Some contents →
      IsSaveBy client m contents call status → Acts client now before after call status
  relocks : (m : ℕ) → Under client m now before → Under client (m + 1) now after → after.contents ≡ before.contents → IsOther client call status →
      Acts client now before after call status
  frees : (m : ℕ) → Under client m now before → IsOut client after → HasGone client m now after → after.contents ≡ before.contents →
      IsUnlockBy client m call status → Acts client now before after call status

-- ids

pub own_number : (client : Client) (i j : ℕ) → lock_id client.nonce i ≡ lock_id client.nonce j → i ≡ j
own_number client i j h = same_number client.nonce i j h

pub next_apart : (client : Client) (i : ℕ) → bytes_eq (lock_id client.nonce i) (lock_id client.nonce (i + 1)) ≡ false
next_apart client i =
    let one = lock_id client.nonce i in
    let other = lock_id client.nonce (i + 1) in
    false_from_ne_true (bytes_eq one other) (λ e. let same : i ≡ i + 1 = own_number client i (i + 1) (same_bytes one other e) in absurd (omega (arith, same)))

pub same_holder : (client : Client) (now then_ : ℕ) (file : File) (i j : ℕ) → Under client i now file → Under client j then_ file → i ≡ j
same_holder client now then_ file i j a b =
    let locks : a.lock ≡ b.lock = cc (a.stands, b.stands) in
    own_number client i j (sym a.own ∙ ap (λ (l : Lock). l.id) locks ∙ b.own)

pub not_both : (client : Client) (now : ℕ) (file : File) (i : ℕ) → Under client i now file → IsOut client file → ⊥
not_both client now file i u out = out i (ap held_id u.stands ∙ ap (λ (x : List ℕ). Some x) u.own)

-- settling

pub gone-settled : (client : Client) (j now later : ℕ) (file : File) → now ≤ later → HasGone client j now file → HasGone client j later (settled file later)
gone-settled client j now later file le (inl past) = inl (omega (arith, past, le))
gone-settled client j now later file le (inr h) =
    let id = lock_id client.nonce j in
    let e = client.token.expires in
    elim (cases_lt later e) [
      | inl lt ↦ inr (stays-still (with_spent (expired file.lock later) file.spent) later id e lt (stays-with (expired file.lock later) file.spent id e h))
      | inr past ↦ inl past
    ]

-- the lock has ended: its id is spent
expired_gone : (client : Client) (m now later : ℕ) (file : File) → (u : Under client m now file) → is_over u.lock later ≡ true → HasGone client m later (settled file later)
expired_gone client m now later file u over =
    let id = lock_id client.nonce m in
    let e = client.token.expires in
    let here : IsSpentUntil (with_spent (cond (is_over u.lock later) (Some (record { id = u.lock.id; until = u.lock.until })) None) file.spent) id e =
    subst (λ (b : Bool). IsSpentUntil (with_spent (cond b (Some (record { id = u.lock.id; until = u.lock.until })) None) file.spent) id e) (sym over) (inl (u.own, u.long)) in
    let spent : IsSpentUntil (with_spent (expired file.lock later) file.spent) id e =
    subst (λ (l : Option Lock). IsSpentUntil (with_spent (expired l later) file.spent) id e) (sym u.stands) here in
    elim (cases_lt later e) [
      | inl lt ↦ inr (stays-still (with_spent (expired file.lock later) file.spent) later id e lt spent)
      | inr past ↦ inl past
    ]

lock-settled : (client : Client) (m now later : ℕ) (file : File) → (u : Under client m now file) (b : Bool) → is_over u.lock later ≡ b → (settled file later).lock ≡ cond b None (Some u.lock)
lock-settled client m now later file u b over =
    ap (λ (l : Option Lock). standing l later) u.stands ∙ ap (λ (x : Bool). cond x None (Some u.lock)) over

pub record Over (client : Client) (now : ℕ) (file : File) : Type 0 where
  pub out : IsOut client file
  pub first : HasGone client 1 now file

pub record HasExpired (client : Client) (m later : ℕ) (file : File) : Type 0 where
  pub out : IsOut client (settled file later)
  pub all : (j : ℕ) → 1 ≤ j → j ≤ m → HasGone client j later (settled file later)

settled_by : (client : Client) (m now later : ℕ) (file : File) → now ≤ later → (u : Under client m now file) (b : Bool) → is_over u.lock later ≡ b →
    (Under client m later (settled file later) × (is_over u.lock later ≡ false)) ⊎ ((is_over u.lock later ≡ true) × HasExpired client m later file)
settled_by client m now later file le u true over =
    let none = lock-settled client m now later file u true over in
    inr (
      over,
      record {
        out = λ number h. let bad : None ≡ Some (lock_id client.nonce number) = sym (ap held_id none) ∙ h in cc;
        all = λ j one at. elim (cases_lt j m) [
          | inl below ↦ gone-settled client j now later file le (u.lower j one below)
          | inr above ↦ let same : m ≡ j = omega (arith, at, above) in subst (λ (n : ℕ). HasGone client n later (settled file later)) same (expired_gone client m now later file u over)
        ];
      },
    )
settled_by client m now later file le u false over =
    inl (
      record {
        lock = u.lock;
        stands = lock-settled client m now later file u false over;
        own = u.own;
        long = u.long;
        counted = u.counted;
        lower = λ j one below. gone-settled client j now later file le (u.lower j one below);
      },
      over,
    )

pub under-settled : (client : Client) (m now later : ℕ) (file : File) → now ≤ later → (u : Under client m now file) →
    (Under client m later (settled file later) × (is_over u.lock later ≡ false)) ⊎ ((is_over u.lock later ≡ true) × HasExpired client m later file)
under-settled client m now later file le u = settled_by client m now later file le u (is_over u.lock later) refl

pub standing_was : (lock : Option Lock) (later : ℕ) (stays : Lock) → standing lock later ≡ Some stays → lock ≡ Some stays
standing_was None later stays h = cc
standing_was (Some lock) later stays h =
    (elim (is_over lock later) as (λ b. cond b None (Some lock) ≡ Some stays → Some lock ≡ Some stays) [ true ↦ λ e. cc | false ↦ λ e. e ]) h

pub out-settled : (client : Client) (later : ℕ) (file : File) → IsOut client file → IsOut client (settled file later)
out-settled client later file out = go (standing file.lock later) refl
  where
    go : (lock : Option Lock) → standing file.lock later ≡ lock → (number : ℕ) → held_id lock ≡ Some (lock_id client.nonce number) → ⊥
    go None e number h = cc
    go (Some lock) e number h = out number (ap held_id (standing_was file.lock later lock e) ∙ h)

-- acts that pass

accepted_there : (a b c e : Bool) (r : Verdict) →
    cond a (Refuse 401) (cond b (Refuse 404) (cond c (Refuse 404)
    (elim r [ says.Refuse reason ↦ Conflict reason | says.Accept ↦ cond e (Refuse 412) Accept ]))) ≡ Accept → b ≡ false
accepted_there a false c e r h = refl
accepted_there true true c e r h = cc
accepted_there false true c e r h = cc

pub not_missing : (file : File) (call : Call) (opened now : ℕ) → decision file call opened now ≡ Accept → is_missing file call.act ≡ false
not_missing file call opened now h =
    accepted_there (is_unauthorized call opened now) (is_missing file call.act) (lacks_right call) (is_too_large file call.act)
    (verdict file.lock (presents_spent file.spent call.act) (lock_act file call.act)) h

pub accepted-status : (file : File) (call : Call) (opened now : ℕ) → decision file call opened now ≡ Accept → (ruling_of (decision file call opened now) file call now).status ≡ 200
accepted-status file call opened now h =
    ap (λ (d : Decision). (ruling_of d file call now).status) h ∙ acceptance-status call.act (effect file call now)

-- an id that is gone isn't accepted
pub not_gone : (client : Client) (j : ℕ) (file : File) (call : Call) (opened now : ℕ) → decision file call opened now ≡ Accept →
    call.token.expires ≡ client.token.expires → Presents call.act (lock_id client.nonce j) → HasGone client j now file → ⊥
not_gone client j file call opened now h expires p gone =
    not_accepted file call opened now (ruling_of (decision file call opened now) file call now) (lock_id client.nonce j) client.token.expires
    (inl refl) gone (omega (arith, expires)) p (accepted-status file call opened now h)

pub gone-effect : (client : Client) (j now : ℕ) (file : File) (call : Call) → HasGone client j now file → HasGone client j now (effect file call now)
gone-effect client j now file call (inl past) = inl past
gone-effect client j now file call (inr h) =
    inr (stays-with (spent_by file.lock (lock_act file call.act) call.token.expires) file.spent (lock_id client.nonce j) client.token.expires h)

-- somebody else's act under a lock that it doesn't present
not_creating : (there overwrite : Bool) → there ≡ true → (there && not overwrite) ≡ false → (there && overwrite) ≡ false → ⊥
not_creating false overwrite t a b = cc
not_creating true true t a b = cc
not_creating true false t a b = cc

pub others_keep : (lock : Lock) (file : File) (asked : Act) (expires now : ℕ) → table.is_locked_out (Some lock) (lock_act file asked) ≡ false →
    exists file ≡ true → table.is_name_taken (lock_act file asked) ≡ false → (is_some (Some lock) && table.is_replacing (lock_act file asked)) ≡ false →
    (Presents asked lock.id → ⊥) →
    (contents_after file asked ≡ file.contents) × (lock_after (Some lock) (lock_act file asked) expires now ≡ Some lock)
others_keep lock file act.Info expires now let_in there free replaces other = (refl, refl)
others_keep lock file (act.Get most) expires now let_in there free replaces other = (refl, refl)
others_keep lock file (act.Put None contents) expires now let_in there free replaces other = cc
others_keep lock file (act.Put (Some id) contents) expires now let_in there free replaces other =
    absurd (other (same_bytes id lock.id (not-false (bytes_eq id lock.id) let_in)))
others_keep lock file (act.Lock id) expires now let_in there free replaces other =
    absurd (other (same_bytes id lock.id (not-false (bytes_eq id lock.id) let_in)))
others_keep lock file act.GetLock expires now let_in there free replaces other = (refl, refl)
others_keep lock file (act.Refresh id) expires now let_in there free replaces other =
    absurd (other (same_bytes id lock.id (not-false (bytes_eq id lock.id) let_in)))
others_keep lock file (act.Unlock id) expires now let_in there free replaces other =
    absurd (other (same_bytes id lock.id (not-false (bytes_eq id lock.id) let_in)))
others_keep lock file (act.Relock old id) expires now let_in there free replaces other =
    absurd (other (inl (same_bytes old lock.id (not-false (bytes_eq old lock.id) let_in))))
others_keep lock file act.Look expires now let_in there free replaces other = (refl, refl)
others_keep lock file (act.Create overwrite contents) expires now let_in there free replaces other =
    absurd (not_creating (exists file) overwrite there free replaces)
others_keep lock file act.Delete expires now let_in there free replaces other = cc

-- somebody else's act takes no id of the session
relock_out : (client : Client) (lock : Lock) (old id : List ℕ) (expires now number : ℕ) → (held_id (Some lock) ≡ Some (lock_id client.nonce number) → ⊥) →
    (id ≡ lock_id client.nonce number → ⊥) →
    held_id (lock_after (Some lock) (asks.Relock old id) expires now) ≡ Some (lock_id client.nonce number) → ⊥
relock_out client lock old id expires now number out other h =
    (elim (bytes_eq old id) as (λ b. held_id (cond b (Some (table.refreshed lock expires now)) (Some (record { id = id; since = now; until = expires }))) ≡ Some (lock_id client.nonce number) → ⊥) [
      | true ↦ λ e. out e
      | false ↦ λ e. let same : id ≡ lock_id client.nonce number = cc in other same
    ]) h

pub others_out : (client : Client) (lock : Option Lock) (file : File) (asked : Act) (expires now number : ℕ) → (held_id lock ≡ Some (lock_id client.nonce number) → ⊥) →
    (Presents asked (lock_id client.nonce number) → ⊥) →
    held_id (lock_after lock (lock_act file asked) expires now) ≡ Some (lock_id client.nonce number) → ⊥
others_out client None file act.Info expires now number out other h = cc
others_out client None file (act.Get most) expires now number out other h = cc
others_out client None file (act.Put id contents) expires now number out other h = cc
others_out client None file (act.Lock id) expires now number out other h = let same : id ≡ lock_id client.nonce number = cc in other same
others_out client None file act.GetLock expires now number out other h = cc
others_out client None file (act.Refresh id) expires now number out other h = cc
others_out client None file (act.Unlock id) expires now number out other h = cc
others_out client None file (act.Relock old id) expires now number out other h = cc
others_out client None file act.Look expires now number out other h = cc
others_out client None file (act.Create overwrite contents) expires now number out other h = cc
others_out client None file act.Delete expires now number out other h = cc
others_out client (Some lock) file act.Info expires now number out other h = out h
others_out client (Some lock) file (act.Get most) expires now number out other h = out h
others_out client (Some lock) file (act.Put id contents) expires now number out other h = out h
others_out client (Some lock) file (act.Lock id) expires now number out other h = out h
others_out client (Some lock) file act.GetLock expires now number out other h = out h
others_out client (Some lock) file (act.Refresh id) expires now number out other h = out h
others_out client (Some lock) file (act.Unlock id) expires now number out other h = cc
others_out client (Some lock) file (act.Relock old id) expires now number out other h =
    relock_out client lock old id expires now number out (λ e. other (inr e)) h
others_out client (Some lock) file act.Look expires now number out other h = out h
others_out client (Some lock) file (act.Create overwrite contents) expires now number out other h = out h
others_out client (Some lock) file act.Delete expires now number out other h = out h
