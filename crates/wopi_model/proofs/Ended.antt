-- An id that has ended stays so.
use Rattle.std.proofs.Common.{◌≡◌, ◌≢◌, ◌⊎◌, ℕ, ◌<◌, ◌≤◌, max, ◌==◌, Bool, true, false, not, ◌||◌, cond, List, [], ◌∷◌, Option, None, Some, nat_lt, nat_le, refl, sym, ap, subst, ◌∙◌, inl, inr, arith}
use Rattle.std.proofs.lemmas.Bool.{not-false, or_parts, or_left, or_right, and_parts, false≢true, cases_lt, lt-ltb, ltb-true}
use Rattle.std.proofs.lemmas.Slice.Eq.{bytes_eq-Decides}
use Rattle.std.specs.Str.{bytes_eq}
use Rattle.wopi_model.specs.declared.locks.Verdict.{Verdict}
use Rattle.wopi_model.specs.declared.locks.Verdict.TheVariants as says
use Rattle.wopi_model.specs.Token.{is_live}
use Rattle.wopi_model.specs.declared.locks.Spent.{Spent}
use Rattle.wopi_model.specs.File.{File}
use Rattle.wopi_model.specs.Settle.{expired, with_spent, still_spent}
use Rattle.wopi_model.specs.LockTable.{verdict, spent_by}
use Rattle.wopi_model.specs.declared.calls.Act.TheVariants as act
use Rattle.wopi_model.specs.declared.calls.Act.{Act}
use Rattle.wopi_model.specs.Act.{is_spent, lock_act, presents_spent, is_create}
use Rattle.wopi_model.specs.declared.calls.Call.{Call}
use Rattle.wopi_model.specs.declared.calls.Ruling.{Ruling}
use Rattle.wopi_model.specs.Step.{Decision, Refuse, Conflict, Accept, is_unauthorized, is_missing, lacks_right, is_too_large, decision, ruling_of, file_of, after_step, IsOutcome}
use Rattle.wopi_model.specs.Shard.{Shard, Item, Tick, Step, Entry, IsAllowed, Along, at_moment, with_file, happens}
use Rattle.wopi_model.specs.Safety.{Presents, IsSpentUntil, HasEnded, RefusesEnded}
use Rattle.wopi_model.proofs.Soundness.{passes}

-- the entry stays while its time hasn't come
pub stays-still : (spent : List Spent) (now : ℕ) (id : List ℕ) (moment : ℕ) → now < moment → IsSpentUntil spent id moment → IsSpentUntil (still_spent spent now) id moment
stays-still [] now id moment lt h = h
stays-still (one ∷ spent) now id moment lt (inl here) =
    let kept : nat_lt now one.until ≡ true = lt-ltb now one.until (omega (arith, here.1)) in
    subst (λ b. IsSpentUntil (cond b (one ∷ still_spent spent now) (still_spent spent now)) id moment) (sym kept) (inl here)
stays-still (one ∷ spent) now id moment lt (inr there) =
    let rest = stays-still spent now id moment lt there in
    elim (nat_lt now one.until) as (λ b. IsSpentUntil (cond b (one ∷ still_spent spent now) (still_spent spent now)) id moment) [ true ↦ inr rest | false ↦ rest ]

pub stays-with : (more : Option Spent) (spent : List Spent) (id : List ℕ) (moment : ℕ) → IsSpentUntil spent id moment → IsSpentUntil (with_spent more spent) id moment
stays-with None spent id moment h = h
stays-with (Some one) spent id moment h = inr h

pub ended-at_moment : (name id : List ℕ) (moment : ℕ) (shard : Shard) (m : ℕ) → HasEnded name id moment shard → HasEnded name id moment (at_moment shard m)
ended-at_moment name id moment shard m (inl past) = inl (omega (arith, past))
ended-at_moment name id moment shard m (inr h) =
    let file = shard.files name in
    let now = max shard.now m in
    elim (cases_lt now moment) [
      | inl lt ↦ inr (stays-still (with_spent (expired file.lock now) file.spent) now id moment lt (stays-with (expired file.lock now) file.spent id moment h))
      | inr past ↦ inl past
    ]

pub stays-file_of : (decided : Decision) (file : File) (call : Call) (now : ℕ) (id : List ℕ) (moment : ℕ) → IsSpentUntil file.spent id moment → IsSpentUntil (file_of decided file call now).spent id moment
stays-file_of (Refuse status) file call now id moment h = h
stays-file_of (Conflict reason) file call now id moment h = h
stays-file_of Accept file call now id moment h = stays-with (spent_by file.lock (lock_act file call.act) call.token.expires) file.spent id moment h

pub stays-after_step : (file : File) (call : Call) (opened now : ℕ) (ruling : Ruling) (id : List ℕ) (moment : ℕ) → IsSpentUntil file.spent id moment → IsSpentUntil (after_step file call opened now ruling).spent id moment
stays-after_step file call opened now ruling id moment h =
    elim (ruling.status == 500) as (λ b. IsSpentUntil (cond b file (file_of (decision file call opened now) file call now)).spent id moment) [
      | true ↦ h
      | false ↦ stays-file_of (decision file call opened now) file call now id moment h
    ]

pub ended-entry : (name id : List ℕ) (moment : ℕ) (at : Shard) (entry : Entry) → HasEnded name id moment at →
    HasEnded name id moment (with_file at entry.call.name (after_step (at.files entry.call.name) entry.call at.opened at.now entry.ruling))
ended-entry name id moment at entry (inl past) = inl past
ended-entry name id moment at entry (inr h) =
    let new_file = after_step (at.files entry.call.name) entry.call at.opened at.now entry.ruling in
    inr (elim (bytes_eq entry.call.name name) as (λ b. bytes_eq entry.call.name name ≡ b → IsSpentUntil (cond b new_file (at.files name)).spent id moment) [
      | true ↦ λ e.
          let was : IsSpentUntil (at.files entry.call.name).spent id moment = subst (λ (n : List ℕ). IsSpentUntil (at.files n).spent id moment) (sym ((bytes_eq-Decides entry.call.name name).0 e)) h in
          stays-after_step (at.files entry.call.name) entry.call at.opened at.now entry.ruling id moment was
      | false ↦ λ e. h
    ] refl)

pub ended-happens : (name id : List ℕ) (moment : ℕ) (shard : Shard) (item : Item) → HasEnded name id moment shard → HasEnded name id moment (happens shard item)
ended-happens name id moment shard (Tick m) h = ended-at_moment name id moment shard m h
ended-happens name id moment shard (Step entry) h =
    ended-entry name id moment (at_moment shard entry.moment) entry (ended-at_moment name id moment shard entry.moment h)

-- a decision that tells 200 is an acceptance, under a live token
pub accepted_if : (a b c e : Bool) (r : Verdict) (file : File) (call : Call) (now : ℕ) →
    let d : Decision = cond a (Refuse 401) (cond b (Refuse 404) (cond c (Refuse 404)
    (elim r [ says.Refuse reason ↦ Conflict reason | says.Accept ↦ cond e (Refuse 412) Accept ]))) in
    (ruling_of d file call now).status ≡ 200 → (a ≡ false) × (d ≡ Accept)
accepted_if true b c e r file call now h = absurd (omega arith)
accepted_if false true c e r file call now h = absurd (omega arith)
accepted_if false false true e r file call now h = absurd (omega arith)
accepted_if false false false e (says.Refuse reason) file call now h = absurd (omega arith)
accepted_if false false false true says.Accept file call now h = absurd (omega arith)
accepted_if false false false false says.Accept file call now h = (refl, refl)

live_now : (call : Call) (opened now : ℕ) → is_unauthorized call opened now ≡ false → now < call.token.expires
live_now call opened now h =
    let parts = or_parts (not (is_live call.token opened now)) (not (is_create call.act || bytes_eq call.token.file call.name)) h in
    let live = not-false (is_live call.token opened now) parts.0 in
    ltb-true now call.token.expires (and_parts (nat_lt now call.token.expires) (nat_le opened call.token.issued) live).0

is_spent-from : (spent : List Spent) (id : List ℕ) (moment : ℕ) → IsSpentUntil spent id moment → is_spent spent id ≡ true
is_spent-from [] id moment h = absurd h
is_spent-from (one ∷ spent) id moment (inl here) = or_left (bytes_eq one.id id) (is_spent spent id) ((bytes_eq-Decides one.id id).1 here.0)
is_spent-from (one ∷ spent) id moment (inr there) = or_right (bytes_eq one.id id) (is_spent spent id) (is_spent-from spent id moment there)

pub presents_spent-from : (spent : List Spent) (asked : Act) (id : List ℕ) → Presents asked id → is_spent spent id ≡ true → presents_spent spent asked ≡ true
presents_spent-from spent (act.Lock own) id p h = subst (λ (x : List ℕ). is_spent spent x ≡ true) (sym p) h
presents_spent-from spent (act.Refresh own) id p h = subst (λ (x : List ℕ). is_spent spent x ≡ true) (sym p) h
presents_spent-from spent (act.Unlock own) id p h = subst (λ (x : List ℕ). is_spent spent x ≡ true) (sym p) h
presents_spent-from spent (act.Put (Some own) contents) id p h = subst (λ (x : List ℕ). is_spent spent x ≡ true) (sym p) h
presents_spent-from spent (act.Relock old own) id (inl p) h = or_left (is_spent spent old) (is_spent spent own) (subst (λ (x : List ℕ). is_spent spent x ≡ true) (sym p) h)
presents_spent-from spent (act.Relock old own) id (inr p) h = or_right (is_spent spent old) (is_spent spent own) (subst (λ (x : List ℕ). is_spent spent x ≡ true) (sym p) h)
presents_spent-from spent (act.Put None contents) id p h = absurd p
presents_spent-from spent act.Info id p h = absurd p
presents_spent-from spent (act.Get most) id p h = absurd p
presents_spent-from spent act.GetLock id p h = absurd p
presents_spent-from spent act.Look id p h = absurd p
presents_spent-from spent (act.Create overwrite contents) id p h = absurd p
presents_spent-from spent act.Delete id p h = absurd p

pub not_accepted : (file : File) (call : Call) (opened now : ℕ) (ruling : Ruling) (id : List ℕ) (moment : ℕ) → IsOutcome file call opened now ruling →
    (moment ≤ now) ⊎ IsSpentUntil file.spent id moment → call.token.expires ≤ moment → Presents call.act id → ruling.status ≢ 200
not_accepted file call opened now ruling id moment (inr fault) ended late p h =
    let s : ruling.status ≡ 500 = ap (λ (r : Ruling). r.status) fault.2 in
    absurd (omega arith)
not_accepted file call opened now ruling id moment (inl same) ended late p h =
    let a = accepted_if (is_unauthorized call opened now) (is_missing file call.act) (lacks_right call) (is_too_large file call.act)
    (verdict file.lock (presents_spent file.spent call.act) (lock_act file call.act)) file call now (sym (ap (λ (r : Ruling). r.status) same) ∙ h) in
    let live = live_now call opened now a.0 in
    elim ended [
      | inl past ↦ absurd (omega (arith, past, live, late))
      | inr spent ↦ absurd (false≢true (sym (passes file call opened now a.1).unspent
          ∙ presents_spent-from file.spent call.act id p (is_spent-from file.spent id moment spent)))
    ]

refuses_item : (shard : Shard) (item : Item) (name id : List ℕ) (moment : ℕ) → HasEnded name id moment shard → IsAllowed shard item → RefusesEnded name id moment shard item
refuses_item shard (Tick other) name id moment ended allowed = tt
refuses_item shard (Step entry) name id moment ended allowed = λ same late p.
    let at = at_moment shard entry.moment in
    let e = subst (λ (n : List ℕ). HasEnded n id moment at) (sym same) (ended-at_moment name id moment shard entry.moment ended) in
    not_accepted (at.files entry.call.name) entry.call at.opened at.now entry.ruling id moment allowed e late p

pub refuses_ended : (shard : Shard) (later : List Item) (name id : List ℕ) (moment : ℕ) → HasEnded name id moment shard →
    Along IsAllowed shard later → Along (RefusesEnded name id moment) shard later
refuses_ended shard [] name id moment ended allowed = tt
refuses_ended shard (item ∷ later) name id moment ended allowed = (
  refuses_item shard item name id moment ended allowed.0,
  refuses_ended (happens shard item) later name id moment (ended-happens name id moment shard item ended) allowed.1,
)
