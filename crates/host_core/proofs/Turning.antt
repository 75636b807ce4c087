-- What a step makes of the locks.
use Rattle.std.proofs.Common.{◌≡◌, ◌≢◌, inl, inr, ◌<◌, ◌≤◌, ℕ, zero, suc, Bool, true, false, if◌then◌else◌, List, [], ◌∷◌, ◌++◌, length, map, Option, None, Some, is_some, option_map, unwrap_or, nat_le, ◌+◌, refl, sym, ap, subst, ◌∙◌, arith, slice_get}
use Rattle.std.proofs.lemmas.Bool.Decides.{eqb_tells, nat_tests}
use Rattle.std.proofs.lemmas.List.{length-map}
use Rattle.std.proofs.lemmas.Option.{slice_get-map, none-some}
use Rattle.std.specs.Str.{bytes_eq}
use Rattle.wopi_model.specs.declared.locks.Lock.{Lock}
use Rattle.wopi_model.specs.declared.locks.Spent.{Spent}
use Rattle.wopi_model.specs.declared.locks.LockAct.{LockAct}
use Rattle.wopi_model.specs.declared.locks.LockAct.TheVariants as asks
use Rattle.wopi_model.specs.declared.calls.Act.{Act}
use Rattle.wopi_model.specs.declared.calls.Act.TheVariants as acts
use Rattle.wopi_model.specs.Act.{lock_act}
use Rattle.wopi_model.specs.File.{File}
use Rattle.wopi_model.specs.LockTable.{lock_after}
use Rattle.std.specs.Option.{option_and_then}
use Rattle.lock_machine.specs.Changes.{held_as, left_by, spent_as, taken_by}
use Rattle.lock_machine.specs.declared.change.Change.{Change}
use Rattle.lock_machine.specs.declared.change.Change.TheVariants as change
use Rattle.wopi_model.specs.Moment.{lock_life}
use Rattle.wopi_model.specs.Settle.{standing, is_over}
use Rattle.kept_locks.specs.Locks.{Standing, Locks, unlocked, ended_at, all_ended, purged_at, stepped, with_lock}
use Rattle.kept_locks.specs.Ties.{BeganBy, GoesOn, Spends, renewed, renewed_at}
use Rattle.host_core.specs.Effects.{taken_of}
use Rattle.host_core.specs.Turns.{LockFollows, AllStand, AreAsOf, all_gone, gone_at}
use Rattle.host_core.specs.Whole.{standing_at}
use Rattle.host_core.proofs.Joining.{stands_at, stands_ended, stands_gone}

pub follows_same : (lock : Option Lock) (now : ℕ) → LockFollows lock lock now
follows_same None now = tt
follows_same (Some lock) now = inl refl

relocked : (old : Lock) (b : Bool) (one two : Lock) (now : ℕ) → one.since ≡ now → two.since ≡ now → LockFollows (Some old) (if b then Some one else Some two) now
relocked old true one two now e h = inr e
relocked old false one two now e h = inr h

pub follows_after : (lock : Option Lock) (asked : LockAct) (expires now : ℕ) → LockFollows lock (lock_after lock asked expires now) now
follows_after None (asks.Lock id) expires now = refl
follows_after None _ expires now = tt
follows_after (Some lock) (asks.Lock id) expires now = inr refl
follows_after (Some lock) (asks.Refresh id) expires now = inr refl
follows_after (Some lock) (asks.Unlock id) expires now = tt
follows_after (Some lock) (asks.Relock old id) expires now = relocked lock (bytes_eq old id) _ _ now refl refl
follows_after (Some lock) (asks.Put id empty) expires now = inl refl
follows_after (Some lock) _ expires now = inl refl

stood : (lock : Option Lock) (now : ℕ) (one : Lock) → standing lock now ≡ Some one → lock ≡ Some one
stood None now one e = absurd (cc)
stood (Some lock) now one e = go (is_over lock now) e where
  go : (b : Bool) → (if b then None else Some lock) ≡ Some one → Some lock ≡ Some one
  go true h = cc
  go false h = h

-- a change of what stands leaves the lock or ends it
module _ (change : Standing → Standing) (moment : ℕ) (ends : (s : Standing) (lock : Lock) → (change s).lock ≡ Some lock → s.lock ≡ Some lock) where
  mapped : (o : Option Standing) (file : Standing) → option_map change o ≡ Some file → (s : Standing) × (o ≡ Some s) × (change s ≡ file)
  mapped None file e = absurd (cc)
  mapped (Some s) file e = (s, refl, cc)

  began_changed : (ss : List Standing) → BeganBy moment ss → BeganBy moment (map change ss)
  began_changed ss began = λ number file lock at is.
      let (s, there, changed) = mapped (slice_get ss number) file (sym (slice_get-map change ss number) ∙ at) in
      began number s lock there (ends s lock (ap (λ (x : Standing). x.lock) changed ∙ is))

-- locks that end are no longer there
pub began_ended : (ss : List Standing) (now moment : ℕ) → BeganBy moment ss → BeganBy moment (all_ended now ss)
began_ended ss now moment began = began_changed (ended_at now) moment (λ s lock. stood s.lock now lock) ss began

pub began_gone : (purged : Bool) (ss : List Standing) (now moment : ℕ) → BeganBy moment ss → BeganBy moment (all_gone purged now ss)
began_gone false ss now moment began = began_ended ss now moment began
began_gone true ss now moment began = began_changed (purged_at now) moment (λ s lock is. is) (all_ended now ss) (began_ended ss now moment began)

pub long_gone : (purged : Bool) (now : ℕ) (ss : List Standing) → length (all_gone purged now ss) ≡ length ss
long_gone false now ss = length-map ss (ended_at now)
long_gone true now ss = length-map (all_ended now ss) (purged_at now) ∙ length-map ss (ended_at now)

lock_gone : (purged : Bool) (now : ℕ) (s : Standing) → (gone_at purged now s).lock ≡ standing s.lock now
lock_gone false now s = refl
lock_gone true now s = refl

there_ended : (ss : List Standing) (number now : ℕ) → number < length ss → slice_get (all_ended now ss) number ≡ Some (ended_at now (standing_at ss number))
there_ended ss number now lt = slice_get-map (ended_at now) ss number ∙ ap (option_map (ended_at now)) (stands_at ss number lt)

pub goes_on : (ss : List Standing) (number now : ℕ) (lock : Option Lock) → number < length ss → BeganBy now ss → LockFollows (standing (standing_at ss number).lock now) lock now → GoesOn (all_ended now ss) number lock
goes_on ss number now None lt began follows = tt
goes_on ss number now (Some lock) lt began follows = go (standing (standing_at ss number).lock now) refl follows where
  new : lock.since ≡ now → GoesOn (all_ended now ss) number (Some lock)
  new e = inr (subst (λ (m : ℕ). BeganBy m (all_ended now ss)) (sym e) (began_ended ss now now began))

  go : (old : Option Lock) → standing (standing_at ss number).lock now ≡ old → LockFollows old (Some lock) now → GoesOn (all_ended now ss) number (Some lock)
  go None e h = new h
  go (Some held) e (inl same) = inl (ended_at now (standing_at ss number), held, there_ended ss number now lt, e, same)
  go (Some held) e (inr h) = new h

pub stands_set : (ss : List Standing) (number : ℕ) (lock : Option Lock) (spend : Option Spent) (now : ℕ) → number < length ss
    → standing_at (with_lock ss number lock spend now) number ≡ stepped lock spend now (standing_at ss number)
stands_set [] number lock spend now lt = absurd (omega (arith, lt))
stands_set (s ∷ ss) zero lock spend now lt = refl
stands_set (s ∷ ss) (suc number) lock spend now lt = stands_set ss number lock spend now (omega (arith, lt))

pub stands_beside : (ss : List Standing) (number : ℕ) (lock : Option Lock) (spend : Option Spent) (now other : ℕ) → other ≢ number
    → standing_at (with_lock ss number lock spend now) other ≡ standing_at ss other
stands_beside [] number lock spend now other differ = refl
stands_beside (s ∷ ss) zero lock spend now zero differ = absurd (differ refl)
stands_beside (s ∷ ss) zero lock spend now (suc other) differ = refl
stands_beside (s ∷ ss) (suc number) lock spend now zero differ = refl
stands_beside (s ∷ ss) (suc number) lock spend now (suc other) differ = stands_beside ss number lock spend now other (λ e. differ (ap suc e))

pub long_set : (ss : List Standing) (number : ℕ) (lock : Option Lock) (spend : Option Spent) (now : ℕ) → length (with_lock ss number lock spend now) ≡ length ss
long_set [] number lock spend now = refl
long_set (s ∷ ss) zero lock spend now = refl
long_set (s ∷ ss) (suc number) lock spend now = ap suc (long_set ss number lock spend now)

-- a file more, which was never locked
pub stands_push : (ss : List Standing) (n : ℕ) → standing_at (ss ++ unlocked ∷ []) n ≡ standing_at ss n
stands_push [] zero = refl
stands_push [] (suc n) = refl
stands_push (s ∷ ss) zero = refl
stands_push (s ∷ ss) (suc n) = stands_push ss n

pub began_push : (ss : List Standing) (moment : ℕ) → BeganBy moment ss → BeganBy moment (ss ++ unlocked ∷ [])
began_push [] moment began zero file lock at is = absurd (never (is_free file at) is) where
  is_free : (file : Standing) → Some unlocked ≡ Some file → file.lock ≡ None
  is_free file e = ap (λ (o : Option Standing). (unwrap_or o unlocked).lock) (sym e)

  never : file.lock ≡ None → file.lock ≡ Some lock → ⊥
  never free held = none-some lock (sym free ∙ held)
began_push [] moment began (suc n) file lock at is = absurd (cc)
began_push (s ∷ ss) moment began zero file lock at is = began zero file lock at is
began_push (s ∷ ss) moment began (suc n) file lock at is = began_push ss moment (λ m. began (suc m)) n file lock at is

-- the lock that is set began by then
pub began_set : (ss : List Standing) (number : ℕ) (lock : Option Lock) (spend : Option Spent) (now : ℕ) → BeganBy now ss → ((one : Lock) → lock ≡ Some one → one.since ≤ now) → BeganBy now (with_lock ss number lock spend now)
began_set [] number lock spend now began new n file one at is = began n file one at is
began_set (s ∷ ss) zero lock spend now began new zero file one at is = new one (ap (λ (o : Option Standing). (unwrap_or o s).lock) at ∙ is)
began_set (s ∷ ss) zero lock spend now began new (suc n) file one at is = began (suc n) file one at is
began_set (s ∷ ss) (suc number) lock spend now began new zero file one at is = began zero file one at is
began_set (s ∷ ss) (suc number) lock spend now began new (suc n) file one at is = began_set ss number lock spend now (λ m. began (suc m)) new n file one at is

pub new_by : (ss : List Standing) (number now : ℕ) (lock : Option Lock) → number < length ss → BeganBy now ss → LockFollows (standing (standing_at ss number).lock now) lock now → (one : Lock) → lock ≡ Some one → one.since ≤ now
new_by ss number now None lt began follows one e = absurd (cc)
new_by ss number now (Some lock) lt began follows one e = go (standing (standing_at ss number).lock now) refl follows where
  same : lock.since ≡ one.since
  same = cc

  go : (old : Option Lock) → standing (standing_at ss number).lock now ≡ old → LockFollows old (Some lock) now → one.since ≤ now
  go None is h = omega (arith, same, h)
  go (Some held) is (inl h) = let by = began number (standing_at ss number) held (stands_at ss number lt) (stood (standing_at ss number).lock now held is) in omega (arith, same, h, by)
  go (Some held) is (inr h) = omega (arith, same, h)

-- what an act leaves of the lock that stands
pub ends_by : (old lock : Option Lock) (asked : LockAct) (expires now : ℕ) → lock ≡ lock_after (standing old now) asked expires now → LockFollows (standing old now) lock now
ends_by old lock asked expires now after = subst (λ (l : Option Lock). LockFollows (standing old now) l now) (sym after) (follows_after (standing old now) asked expires now)

-- an id is spent only of a lock that stands under the number
pub spends_at : (ss : List Standing) (number : ℕ) (until : Option ℕ) → number < length ss → Spends ss number (spent_as (standing_at ss number).lock until)
spends_at ss number until lt = go (standing_at ss number).lock refl until where
  go : (lock : Option Lock) → (standing_at ss number).lock ≡ lock → (end : Option ℕ) → Spends ss number (spent_as lock end)
  go None e end = tt
  go (Some held) e None = tt
  go (Some held) e (Some moment) = (standing_at ss number, held, stands_at ss number lt, e)

spent_none : (lock : Option Lock) → spent_as lock None ≡ None
spent_none None = refl
spent_none (Some held) = refl

-- the lock that goes on under its id
renewed_stands : (since until number : ℕ) (ss : List Standing) → number < length ss
    → renewed_at since until number ss ≡ option_map (λ held. held_as since until held.id) (standing_at ss number).lock
renewed_stands since until number ss lt = ap (λ (o : Option Standing). option_and_then (λ file. option_map (renewed since until) file.lock) o) (stands_at ss number lt)

-- what becomes of a lock, where those that are over have ended
pub left_ended : (old : List Standing) (number now : ℕ) (becomes : Change) (taken : Option (List ℕ))
    → left_by becomes (standing_at (all_ended now old) number).lock taken ≡ left_by becomes (standing (standing_at old number).lock now) taken
left_ended old number now becomes taken = ap (λ (s : Standing). left_by becomes s.lock taken) (stands_ended now old number)

pub spent_ended : (old : List Standing) (number now : ℕ) (until : Option ℕ) → spent_as (standing_at (all_ended now old) number).lock until ≡ spent_as (standing (standing_at old number).lock now) until
spent_ended old number now until = ap (λ (s : Standing). spent_as s.lock until) (stands_ended now old number)

no_moment : (until : Option ℕ) → is_some until ≡ false → until ≡ None
no_moment None e = refl
no_moment (Some moment) e = absurd (cc)

-- a lock that goes on under its id, and spends nothing
pub renewed_with : (ss : List Standing) (number since until now : ℕ) (becomes : Change) (taken : Option (List ℕ)) (spend : Option ℕ) → number < length ss
    → becomes ≡ change.GoesOn since until → is_some spend ≡ false
    → with_lock ss number (renewed_at since until number ss) None now ≡ with_lock ss number (left_by becomes (standing_at ss number).lock taken) (spent_as (standing_at ss number).lock spend) now
renewed_with ss number since until now becomes taken spend lt is none =
    let held = (standing_at ss number).lock in
    let lock : left_by becomes held taken ≡ renewed_at since until number ss =
    ap (λ (c : Change). left_by c held taken) is ∙ sym (renewed_stands since until number ss lt) in
    let spent : spent_as held spend ≡ None = ap (spent_as held) (no_moment spend none) ∙ spent_none held in
    ap (λ (l : Option Lock). with_lock ss number l None now) (sym lock) ∙ ap (λ (s : Option Spent). with_lock ss number (left_by becomes held taken) s now) (sym spent)

pub renewed_goes : (ss : List Standing) (number since until : ℕ) (becomes : Change) (taken : Option (List ℕ)) → number < length ss
    → becomes ≡ change.GoesOn since until → GoesOn ss number (left_by becomes (standing_at ss number).lock taken) → GoesOn ss number (renewed_at since until number ss)
renewed_goes ss number since until becomes taken lt is goes =
    subst (GoesOn ss number) (ap (λ (c : Change). left_by c (standing_at ss number).lock taken) is ∙ sym (renewed_stands since until number ss lt)) goes

-- the id that an act takes, as the lock table sees it
pub taken_same : (file : File) (asked : Act) → taken_by (lock_act file asked) ≡ taken_of asked
taken_same file (acts.Lock id) = refl
taken_same file (acts.Relock old id) = refl
taken_same file acts.Info = refl
taken_same file (acts.Get most) = refl
taken_same file (acts.Put lock contents) = refl
taken_same file acts.GetLock = refl
taken_same file (acts.Refresh id) = refl
taken_same file (acts.Unlock id) = refl
taken_same file acts.Look = refl
taken_same file (acts.Create overwrite contents) = refl
taken_same file acts.Delete = refl

-- what stands at a moment stands there
pub stands_twice : (lock : Option Lock) (now : ℕ) → standing (standing lock now) now ≡ standing lock now
stands_twice None now = refl
stands_twice (Some lock) now = go (is_over lock now) refl where
  go : (b : Bool) → is_over lock now ≡ b → standing (if b then None else Some lock) now ≡ (if b then None else Some lock)
  go true e = refl
  go false e = ap (λ (b : Bool). if b then None else Some lock) e

new_stands : (lock : Lock) (now : ℕ) → lock.since ≡ now → standing (Some lock) now ≡ Some lock
new_stands lock now e =
    let stands : nat_le (lock.since + lock_life) now ≡ false = grind (arith, nat_tests, e) in
    ap (λ (b : Bool). if b then None else Some lock) stands

-- a lock that follows one that stands isn't over
pub follower_stands : (old lock : Option Lock) (now : ℕ) → LockFollows (standing old now) lock now → standing lock now ≡ lock
follower_stands old None now follows = refl
follower_stands old (Some lock) now follows = go (standing old now) refl follows where
  as_long : (held : Lock) → held.since ≡ lock.since → standing (Some held) now ≡ Some held → standing (Some lock) now ≡ Some lock
  as_long held same stands = by (is_over held now) refl where
    by : (b : Bool) → is_over held now ≡ b → standing (Some lock) now ≡ Some lock
    by true e = absurd (none-some held (sym (ap (λ (b : Bool). if b then None else Some held) e) ∙ stands))
    by false e = ap (λ (b : Bool). if b then None else Some lock) (sym (ap (λ (since : ℕ). nat_le (since + lock_life) now) same) ∙ e)

  go : (held : Option Lock) → standing old now ≡ held → LockFollows held (Some lock) now → standing (Some lock) now ≡ Some lock
  go None e h = new_stands lock now h
  go (Some held) e (inl same) = as_long held same (ap (λ (l : Option Lock). standing l now) (sym e) ∙ stands_twice old now ∙ e)
  go (Some held) e (inr h) = new_stands lock now h

-- no lock is over once those have ended that are
pub stand_ended : (ss : List Standing) (now : ℕ) → AllStand now (all_ended now ss)
stand_ended ss now number =
    let is = stands_ended now ss number in
    ap (λ (s : Standing). standing s.lock now) is ∙ stands_twice (standing_at ss number).lock now ∙ sym (ap (λ (s : Standing). s.lock) is)

pub stand_gone : (purged : Bool) (ss : List Standing) (now : ℕ) → AllStand now (all_gone purged now ss)
stand_gone purged ss now number =
    let is = stands_gone purged now ss number in
    let lock : (standing_at (all_gone purged now ss) number).lock ≡ standing (standing_at ss number).lock now = ap (λ (s : Standing). s.lock) is ∙ lock_gone purged now (standing_at ss number) in
    ap (λ (l : Option Lock). standing l now) lock ∙ stands_twice (standing_at ss number).lock now ∙ sym lock

-- nor when one of them became another one
pub stand_set : (ss : List Standing) (number : ℕ) (lock : Option Lock) (spend : Option Spent) (now : ℕ) → number < length ss → standing lock now ≡ lock → AllStand now ss
    → AllStand now (with_lock ss number lock spend now)
stand_set ss number lock spend now lt stands all other = elim (eqb_tells other number) [
  | inl same ↦
      let is : standing_at (with_lock ss number lock spend now) other ≡ stepped lock spend now (standing_at ss number) =
      ap (standing_at (with_lock ss number lock spend now)) same.1 ∙ stands_set ss number lock spend now lt in
      ap (λ (s : Standing). standing s.lock now) is ∙ stands ∙ sym (ap (λ (s : Standing). s.lock) is)
  | inr differ ↦
      let is = stands_beside ss number lock spend now other differ.1 in
      ap (λ (s : Standing). standing s.lock now) is ∙ all other ∙ sym (ap (λ (s : Standing). s.lock) is)
]

pub stand_same : (old new : List Standing) (time : ℕ) → ((n : ℕ) → standing_at new n ≡ standing_at old n) → AllStand time old → AllStand time new
stand_same old new time same all number =
    ap (λ (s : Standing). standing s.lock time) (same number) ∙ all number ∙ sym (ap (λ (s : Standing). s.lock) (same number))

-- the same locks at a later moment
pub as_of_later : (locks : Locks) (time later : ℕ) → AreAsOf time locks → time ≤ later → AreAsOf later locks
as_of_later locks time later as_of le = record {
  began = λ n s lock at held. let by = as_of.began n s lock at held in omega (arith, by, le);
  stepped = let by = as_of.stepped in omega (arith, by, le);
  chains = as_of.chains;
}
