-- Sizes decide what contents decide, as in an audit of a journal.
use Rattle.std.proofs.Common.{◌≡◌, ℕ, ◌+◌, Bool, cond, not, ◌&&◌, ◌||◌, List, [], ◌∷◌, Option, None, Some, length, refl, ap, sym, ◌∙◌, arith, inl, inr}
use Rattle.std.specs.Prelude.{is_some, option_map, unwrap_or, nat_lt}
use Rattle.std.proofs.lemmas.Bool.Decides.{nat_tests}
use Rattle.std.specs.Str.{bytes_eq}
use Rattle.wopi_text.specs.declared.reason.Reason.{Reason}
use Rattle.wopi_model.specs.declared.calls.Call.{Call}
use Rattle.wopi_model.specs.declared.locks.Lock.{Lock}
use Rattle.wopi_model.specs.declared.locks.LockAct.TheVariants as asks
use Rattle.wopi_model.specs.declared.locks.Spent.{Spent}
use Rattle.wopi_model.specs.declared.locks.Verdict.{Verdict}
use Rattle.wopi_model.specs.declared.locks.Verdict.TheVariants as says
use Rattle.wopi_model.specs.File.{File, exists, is_empty}
use Rattle.wopi_model.specs.File as files
use Rattle.wopi_model.specs.Act.{is_create, is_spent, is_stored, lock_act, needs_write, presents_spent}
use Rattle.wopi_model.specs.LockTable.{lock_after, verdict}
use Rattle.wopi_model.specs.Token.{is_live}
use Rattle.wopi_model.specs.Step.{Decision, Refuse, Conflict, Accept, acceptance, decision, effect, is_too_large, lock_field, ruling_of, store_fault}
use Rattle.host_core.specs.declared.entry.EntryAct.{EntryAct}
use Rattle.host_core.specs.declared.entry.EntryAct.TheVariants as act
use Rattle.journal_text.specs.declared.text.Line.{Line}
use Rattle.journal_text.specs.Told.{lock_of}
use Rattle.journal_audit.specs.Calls.{Said, act_of, call_of, said_of}
use Rattle.journal_audit.specs.Lines.{IsRuledOn}
use Rattle.journal_audit.specs.Judging.{IsSize, Placed, SaysOutcome, accepted_as, creates, has_no_bytes, is_over_most, lock_id, said, shows_spent, sized_ask, sized_decision, stores, writes}

empty-same : (contents : Option (List ℕ)) → has_no_bytes (option_map (λ bytes. length bytes) contents) ≡ files.has_no_bytes contents
empty-same None = refl
empty-same (Some []) = refl
empty-same (Some (byte ∷ bytes)) = grind (arith, nat_tests)

there-same : (contents : Option (List ℕ)) → is_some (option_map (λ bytes. length bytes) contents) ≡ is_some contents
there-same None = refl
there-same (Some bytes) = refl

long-same : (contents : Option (List ℕ)) → unwrap_or (option_map (λ bytes. length bytes) contents) 0 ≡ length (unwrap_or contents [])
long-same None = refl
long-same (Some bytes) = refl

pub ask-same : (file : File) (one : EntryAct) (contents : Option (List ℕ)) → sized_ask (option_map (λ bytes. length bytes) file.contents) one ≡ lock_act file (act_of one contents)
ask-same file act.Info contents = refl
ask-same file (act.Get most) contents = refl
ask-same file (act.Put lock size) contents = ap (λ (b : Bool). asks.Put lock b) (empty-same file.contents)
ask-same file (act.Lock id) contents = refl
ask-same file act.GetLock contents = refl
ask-same file (act.Refresh id) contents = refl
ask-same file (act.Unlock id) contents = refl
ask-same file (act.Relock old id) contents = refl
ask-same file act.Look contents = refl
ask-same file (act.Create overwrite size) contents = ap (λ (b : Bool). asks.Create b overwrite) (there-same file.contents)
ask-same file act.Delete contents = refl

spent-same : (refused : List ℕ → Bool) (spent : List Spent) (one : EntryAct) (contents : Option (List ℕ)) → ((id : List ℕ) → refused id ≡ is_spent spent id) →
    shows_spent refused one ≡ presents_spent spent (act_of one contents)
spent-same refused spent act.Info contents e = refl
spent-same refused spent (act.Get most) contents e = refl
spent-same refused spent (act.Put None size) contents e = refl
spent-same refused spent (act.Put (Some id) size) contents e = e id
spent-same refused spent (act.Lock id) contents e = e id
spent-same refused spent act.GetLock contents e = refl
spent-same refused spent (act.Refresh id) contents e = e id
spent-same refused spent (act.Unlock id) contents e = e id
spent-same refused spent (act.Relock old id) contents e = λ i. e old i || e id i
spent-same refused spent act.Look contents e = refl
spent-same refused spent (act.Create overwrite size) contents e = refl
spent-same refused spent act.Delete contents e = refl

creates-same : (one : EntryAct) (contents : Option (List ℕ)) → creates one ≡ is_create (act_of one contents)
creates-same act.Info contents = refl
creates-same (act.Get most) contents = refl
creates-same (act.Put lock size) contents = refl
creates-same (act.Lock id) contents = refl
creates-same act.GetLock contents = refl
creates-same (act.Refresh id) contents = refl
creates-same (act.Unlock id) contents = refl
creates-same (act.Relock old id) contents = refl
creates-same act.Look contents = refl
creates-same (act.Create overwrite size) contents = refl
creates-same act.Delete contents = refl

writes-same : (one : EntryAct) (contents : Option (List ℕ)) → writes one ≡ needs_write (act_of one contents)
writes-same act.Info contents = refl
writes-same (act.Get most) contents = refl
writes-same (act.Put lock size) contents = refl
writes-same (act.Lock id) contents = refl
writes-same act.GetLock contents = refl
writes-same (act.Refresh id) contents = refl
writes-same (act.Unlock id) contents = refl
writes-same (act.Relock old id) contents = refl
writes-same act.Look contents = refl
writes-same (act.Create overwrite size) contents = refl
writes-same act.Delete contents = refl

pub stores-same : (one : EntryAct) (contents : Option (List ℕ)) → stores one ≡ is_stored (act_of one contents)
stores-same act.Info contents = refl
stores-same (act.Get most) contents = refl
stores-same (act.Put lock size) contents = refl
stores-same (act.Lock id) contents = refl
stores-same act.GetLock contents = refl
stores-same (act.Refresh id) contents = refl
stores-same (act.Unlock id) contents = refl
stores-same (act.Relock old id) contents = refl
stores-same act.Look contents = refl
stores-same (act.Create overwrite size) contents = refl
stores-same act.Delete contents = refl

large-same : (file : File) (one : EntryAct) (contents : Option (List ℕ)) → is_over_most (option_map (λ bytes. length bytes) file.contents) one ≡ is_too_large file (act_of one contents)
large-same file act.Info contents = refl
large-same file (act.Get None) contents = refl
large-same file (act.Get (Some most)) contents = ap (nat_lt most) (long-same file.contents)
large-same file (act.Put lock size) contents = refl
large-same file (act.Lock id) contents = refl
large-same file act.GetLock contents = refl
large-same file (act.Refresh id) contents = refl
large-same file (act.Unlock id) contents = refl
large-same file (act.Relock old id) contents = refl
large-same file act.Look contents = refl
large-same file (act.Create overwrite size) contents = refl
large-same file act.Delete contents = refl

-- the table, by what its rows ask
abbrev table : Bool → Bool → Bool → Bool → Bool → Bool → Verdict → Bool → Decision
table live own creating there writing right said large =
    cond (not live || not (creating || own)) (Refuse 401) (cond (not (creating || there)) (Refuse 404) (cond (writing && not right) (Refuse 404)
    (elim said [ says.Refuse reason ↦ Conflict reason | says.Accept ↦ cond large (Refuse 412) Accept ])))

-- the place has what is decided by of the file
pub record Stands (place : Placed) (refused : List ℕ → Bool) (file : File) : Type 0 where
  pub version_is : place.version ≡ file.version
  pub size_is : IsSize file.contents place.size
  pub lock_is : place.lock ≡ file.lock
  pub spent_is : (id : List ℕ) → refused id ≡ is_spent file.spent id

pub sizes_decide : (place : Placed) (refused : List ℕ → Bool) (file : File) (line : Line) (opened now : ℕ) → Stands place refused file →
    sized_decision place (shows_spent refused line.act) line.act line.name line.token opened now ≡ decision file (call_of line) opened now
sizes_decide place refused file line opened now stands =
    let one = line.act in
    let given = line.contents in
    let live = is_live line.token opened now in
    let own = bytes_eq line.token.file line.name in
    let right = line.token.write in
    let is = stands.size_is in
    let a = creates-same one given in
    let b : is_some place.size ≡ exists file = ap (λ (s : Option ℕ). is_some s) is ∙ there-same file.contents in
    let w = writes-same one given in
    let k : sized_ask place.size one ≡ lock_act file (act_of one given) = ap (λ (s : Option ℕ). sized_ask s one) is ∙ ask-same file one given in
    let s = spent-same refused file.spent one given stands.spent_is in
    let h = stands.lock_is in
    let l : is_over_most place.size one ≡ is_too_large file (act_of one given) = ap (λ (s : Option ℕ). is_over_most s one) is ∙ large-same file one given in
    λ i. table live own (a i) (b i) (w i) right (verdict (h i) (s i) (k i)) (l i)

-- ---- what is said

field-same : (lock : Option Lock) → lock_of (lock_field lock) ≡ lock_id lock
field-same None = refl
field-same (Some lock) = refl

abbrev with_lock : ℕ → Option Reason → Option (List ℕ) → Said
with_lock status reason lock = record { status = status; lock = lock; reason = reason; version = None }

-- GetLock leaves the lock
lock-stays : (lock : Option Lock) (expires now : ℕ) → lock_after lock asks.GetLock expires now ≡ lock
lock-stays None expires now = refl
lock-stays (Some lock) expires now = refl

accepted-same : (place : Placed) (file : File) (call : Call) (now : ℕ) (one : EntryAct) (contents : Option (List ℕ)) → place.version ≡ file.version → place.lock ≡ file.lock →
    said_of (acceptance (act_of one contents) (effect file (record call { act = act_of one contents }) now)) ≡ accepted_as place one
accepted-same place file call now act.Info contents v l = λ i. record { status = 200; lock = None; reason = None; version = Some (sym v i) }
accepted-same place file call now (act.Get most) contents v l = λ i. record { status = 200; lock = None; reason = None; version = Some (sym v i) }
accepted-same place file call now (act.Put lock size) contents v l = λ i. record { status = 200; lock = None; reason = None; version = Some (sym v i + 1) }
accepted-same place file call now (act.Lock id) contents v l = λ i. record { status = 200; lock = None; reason = None; version = Some (sym v i) }
accepted-same place file call now act.GetLock contents v l =
    ap (λ (l : Option Lock). with_lock 200 None (lock_of (lock_field l))) (lock-stays file.lock call.token.expires now)
    ∙ ap (λ (l : Option (List ℕ)). with_lock 200 None l) (field-same file.lock) ∙ ap (λ (l : Option Lock). with_lock 200 None (lock_id l)) (sym l)
accepted-same place file call now (act.Refresh id) contents v l = refl
accepted-same place file call now (act.Unlock id) contents v l = λ i. record { status = 200; lock = None; reason = None; version = Some (sym v i) }
accepted-same place file call now (act.Relock old id) contents v l = λ i. record { status = 200; lock = None; reason = None; version = Some (sym v i) }
accepted-same place file call now act.Look contents v l = refl
accepted-same place file call now (act.Create overwrite size) contents v l = λ i. record { status = 200; lock = None; reason = None; version = Some (sym v i + 1) }
accepted-same place file call now act.Delete contents v l = refl

said-same : (place : Placed) (file : File) (line : Line) (now : ℕ) (d : Decision) → place.version ≡ file.version → place.lock ≡ file.lock →
    said_of (ruling_of d file (call_of line) now) ≡ said place line.act d
said-same place file line now (Refuse status) v l = refl
said-same place file line now (Conflict reason) v l = ap (with_lock 409 (Some reason)) (field-same file.lock) ∙ ap (λ (l : Option Lock). with_lock 409 (Some reason) (lock_id l)) (sym l)
said-same place file line now Accept v l = accepted-same place file (call_of line) now line.act line.contents v l

pub outcome_of : (place : Placed) (refused : List ℕ → Bool) (file : File) (line : Line) (opened : ℕ) → Stands place refused file →
    SaysOutcome place (shows_spent refused line.act) line opened → IsRuledOn file line opened line.now
outcome_of place refused file line opened stands ruled =
    let call = call_of line in
    let same = sizes_decide place refused file line opened line.now stands in
    elim ruled as (λ _. IsRuledOn file line opened line.now) [
      | inl says ↦ (
        ruling_of (decision file call opened line.now) file call line.now,
        inl refl,
        said-same place file line line.now (decision file call opened line.now) stands.version_is stands.lock_is ∙ ap (said place line.act) (sym same) ∙ sym says,
      )
      | inr fault ↦ (store_fault, inr (sym same ∙ fault.0, sym (stores-same line.act line.contents) ∙ fault.1, refl), sym fault.2)
    ]

pub says_outcome : (place : Placed) (refused : List ℕ → Bool) (file : File) (line : Line) (opened : ℕ) → Stands place refused file →
    IsRuledOn file line opened line.now → SaysOutcome place (shows_spent refused line.act) line opened
says_outcome place refused file line opened stands ruled =
    let call = call_of line in
    let same = sizes_decide place refused file line opened line.now stands in
    let ruling = ruled.0 in
    elim ruled.1 as (λ _. SaysOutcome place (shows_spent refused line.act) line opened) [
      | inl decided ↦ inl (sym ruled.2 ∙ ap said_of decided ∙ said-same place file line line.now (decision file call opened line.now) stands.version_is stands.lock_is ∙ ap (said place line.act) (sym same))
      | inr fault ↦ inr (same ∙ fault.0, stores-same line.act line.contents ∙ fault.1, sym ruled.2 ∙ ap said_of fault.2)
    ]
