-- What changes contents.
use Rattle.std.proofs.Common.{◌≡◌, ◌≢◌, ℕ, ◌==◌, Bool, true, false, not, ◌&&◌, cond, List, [], ◌∷◌, Option, None, Some, is_some, is_none, refl, sym, ap, subst, ◌∙◌, inl, inr}
use Rattle.std.proofs.lemmas.Bool.{not-false}
use Rattle.std.specs.Str.{bytes_eq}
use Rattle.wopi_model.specs.declared.locks.LockAct.TheVariants as asks
use Rattle.wopi_model.specs.declared.locks.Lock.{Lock}
use Rattle.wopi_model.specs.File.{File, has_no_bytes, is_empty, exists}
use Rattle.wopi_model.specs.LockTable as table
use Rattle.wopi_model.specs.declared.calls.Act.TheVariants as act
use Rattle.wopi_model.specs.declared.calls.Act.{Act}
use Rattle.wopi_model.specs.Act.{lock_act}
use Rattle.wopi_model.specs.declared.calls.Call.{Call}
use Rattle.wopi_model.specs.declared.calls.Ruling.{Ruling}
use Rattle.wopi_model.specs.Step.{Decision, Refuse, Conflict, Accept, IsOutcome, acceptance, contents_after, effect, decision, ruling_of, file_of, after_step, store_fault}
use Rattle.wopi_model.specs.Shard.{Shard, Item, Tick, Step, IsAllowed, Along, at_moment, happens}
use Rattle.wopi_model.specs.Safety.{MayReplace, Replaces, KeepsContents}
use Rattle.wopi_model.proofs.Soundness.{passes, same_bytes}

-- what follows at each place follows along the whole
pub Along-weaker : (P Q : Shard → Item → Type 0) → ((shard : Shard) (item : Item) → P shard item → Q shard item) →
    (shard : Shard) (items : List Item) → Along P shard items → Along Q shard items
Along-weaker P Q f shard [] h = tt
Along-weaker P Q f shard (item ∷ items) h = (f shard item h.0, Along-weaker P Q f (happens shard item) items h.1)

-- an accepted act tells status 200
pub acceptance-status : (asked : Act) (file : File) → (acceptance asked file).status ≡ 200
acceptance-status act.Info file = refl
acceptance-status (act.Get most) file = refl
acceptance-status (act.Put lock contents) file = refl
acceptance-status (act.Lock id) file = refl
acceptance-status act.GetLock file = refl
acceptance-status (act.Refresh id) file = refl
acceptance-status (act.Unlock id) file = refl
acceptance-status (act.Relock old id) file = refl
acceptance-status act.Look file = refl
acceptance-status (act.Create overwrite contents) file = refl
acceptance-status act.Delete file = refl

some_bytes : (bytes : List ℕ) → bytes ≢ [] → has_no_bytes (Some bytes) ≡ false
some_bytes [] some = absurd (some refl)
some_bytes (byte ∷ bytes) some = refl

not_empty : (file : File) (bytes : List ℕ) → bytes ≢ [] → file.contents ≡ Some bytes → is_empty file ≡ false
not_empty file bytes some is = subst (λ (c : Option (List ℕ)). has_no_bytes c ≡ false) (sym is) (some_bytes bytes some)

put_held : (lock : Option Lock) (id : Option (List ℕ)) (empty : Bool) → empty ≡ false → (is_none lock && not empty) ≡ false →
    table.is_locked_out lock (asks.Put id empty) ≡ false → (held : Lock) × (lock ≡ Some held) × (id ≡ Some held.id)
put_held None id true some under let_in = cc
put_held None id false some under let_in = cc
put_held (Some held) None empty some under let_in = cc
put_held (Some held) (Some id) empty some under let_in = (held, refl, ap (λ (x : List ℕ). Some x) (same_bytes id held.id (not-false (bytes_eq id held.id) let_in)))

create_free : (lock : Option Lock) (there overwrite : Bool) → there ≡ true → (there && not overwrite) ≡ false →
    (is_some lock && (there && overwrite)) ≡ false → (overwrite ≡ true) × (lock ≡ None)
create_free lock false overwrite t free replaces = cc
create_free lock true false t free replaces = cc
create_free None true true t free replaces = (refl, refl)
create_free (Some held) true true t free replaces = cc

pub delete_free : (lock : Option Lock) → table.is_locked_out lock asks.Delete ≡ false → lock ≡ None
delete_free None let_in = refl
delete_free (Some held) let_in = cc

-- an act that passed and changes the contents may do so
may_replace : (file : File) (asked : Act) (bytes : List ℕ) → bytes ≢ [] → file.contents ≡ Some bytes →
    (is_none file.lock && table.needs_lock (lock_act file asked)) ≡ false → table.is_locked_out file.lock (lock_act file asked) ≡ false →
    table.is_name_taken (lock_act file asked) ≡ false → (is_some file.lock && table.is_replacing (lock_act file asked)) ≡ false →
    contents_after file asked ≢ Some bytes → MayReplace file.lock asked
may_replace file (act.Put id contents) bytes some is under let_in free replaces changes =
    put_held file.lock id (is_empty file) (not_empty file bytes some is) under let_in
may_replace file (act.Create overwrite contents) bytes some is under let_in free replaces changes =
    create_free file.lock (exists file) overwrite (ap is_some is) free replaces
may_replace file act.Delete bytes some is under let_in free replaces changes = delete_free file.lock let_in
may_replace file _ bytes some is under let_in free replaces changes = absurd (changes is)

replaced_by : (decided : Decision) (file : File) (call : Call) (opened now : ℕ) (ruling : Ruling) (bytes : List ℕ) →
    decision file call opened now ≡ decided → ruling ≡ ruling_of decided file call now → bytes ≢ [] → file.contents ≡ Some bytes →
    (file_of decided file call now).contents ≢ Some bytes → (ruling.status ≡ 200) × MayReplace file.lock call.act
replaced_by (Refuse status) file call opened now ruling bytes d r some is changes = absurd (changes is)
replaced_by (Conflict reason) file call opened now ruling bytes d r some is changes = absurd (changes is)
replaced_by Accept file call opened now ruling bytes d r some is changes =
    let p = passes file call opened now d in (
      ap (λ (x : Ruling). x.status) r ∙ acceptance-status call.act (effect file call now),
      may_replace file call.act bytes some is p.under_lock p.let_in p.free_name p.replaces changes,
    )

replaced : (file : File) (call : Call) (opened now : ℕ) (ruling : Ruling) (bytes : List ℕ) → IsOutcome file call opened now ruling →
    bytes ≢ [] → file.contents ≡ Some bytes → (after_step file call opened now ruling).contents ≢ Some bytes →
    (ruling.status ≡ 200) × MayReplace file.lock call.act
replaced file call opened now ruling bytes (inl told) some is changes =
    elim (ruling.status == 500) as (λ b. (cond b file (file_of (decision file call opened now) file call now)).contents ≢ Some bytes →
    (ruling.status ≡ 200) × MayReplace file.lock call.act) [
      | true ↦ λ ch. absurd (ch is)
      | false ↦ λ ch. replaced_by (decision file call opened now) file call opened now ruling bytes refl told some is ch
    ] changes
replaced file call opened now ruling bytes (inr fault) some is changes =
    let changed : (after_step file call opened now store_fault).contents ≢ Some bytes =
    subst (λ (r : Ruling). (after_step file call opened now r).contents ≢ Some bytes) fault.2 changes in
    absurd (changed is)

pub keeps_contents : (shard : Shard) (item : Item) → IsAllowed shard item → KeepsContents shard item
keeps_contents shard (Tick moment) allowed name bytes some is changes = absurd (changes is)
keeps_contents shard (Step entry) allowed name bytes some is changes =
    let at = at_moment shard entry.moment in
    let new_file = after_step (at.files entry.call.name) entry.call at.opened at.now entry.ruling in
    elim (bytes_eq entry.call.name name) as (λ b. bytes_eq entry.call.name name ≡ b → (cond b new_file (at.files name)).contents ≢ Some bytes →
    Replaces shard (Step entry) name) [
      | true ↦ λ e ch.
          let same = same_bytes entry.call.name name e in
          let was : (shard.files entry.call.name).contents ≡ Some bytes = subst (λ (n : List ℕ). (shard.files n).contents ≡ Some bytes) (sym same) is in
          let r = replaced (at.files entry.call.name) entry.call at.opened at.now entry.ruling bytes allowed some was ch in
          (same, r.0, subst (λ (n : List ℕ). MayReplace (at.files n).lock entry.call.act) same r.1)
      | false ↦ λ e ch. absurd (ch is)
    ] refl changes
