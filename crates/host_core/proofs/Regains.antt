-- Locks and ids that are put in one after another.
use Rattle.std.proofs.Common.{◌≡◌, ◌≢◌, ◌⊎◌, inl, inr, ◌<◌, ◌≤◌, ◌+◌, ◌-◌, ◌==◌, ℕ, zero, suc, Bool, true, false, if◌then◌else◌, List, [], ◌∷◌, ◌++◌, length, map, take, drop, get_or, nat_lt, Option, None, Some, refl, sym, ap, subst, ◌∙◌, arith, slice_get}
use Rattle.std.proofs.lemmas.Bool.{eqb-false, eqb-true, lt-ltb, ltb-false, ltb-true}
use Rattle.std.specs.List.{AllByRecursion}
use Rattle.kept_locks.specs.Locks.{Standing, Locks, AreChained, all_ended, ended_at, unlocked, with_lock}
use Rattle.kept_locks.specs.Ties.{BeganBy, GoesOn}
use Rattle.wopi_model.specs.declared.locks.Lock.{Lock}
use Rattle.wopi_model.specs.declared.locks.Spent.{Spent}
use Rattle.wopi_model.specs.Settle.{expired, standing, still_spent, with_spent}
use Rattle.host_core.specs.Going.{AreHeld, HoldsFrom, IsAsOf, IsFreeOf, IsLive, IsPartly}
use Rattle.host_core.specs.Life.{BeganBefore}
use Rattle.host_core.specs.Turns.{AreAsOf}
use Rattle.host_core.specs.Whole.{standing_at}
use Rattle.host_core.proofs.Joining.{stands_at, stands_ended}
use Rattle.host_core.proofs.Turning.{stands_beside, stands_set}

-- ---- what stands under a number

pub stands_of : (ss : List Standing) (n : ℕ) (s : Standing) → slice_get ss n ≡ Some s → standing_at ss n ≡ s
stands_of [] n s e = absurd (cc (e))
stands_of (x ∷ ss) zero s e = ap (λ (o : Option Standing). elim o [ None ↦ x | Some y ↦ y ]) e
stands_of (x ∷ ss) (suc n) s e = stands_of ss n s e

pub stands_beyond : (ss : List Standing) (n : ℕ) → length ss ≤ n → standing_at ss n ≡ unlocked
stands_beyond [] n le = refl
stands_beyond (s ∷ ss) zero le = absurd (omega (arith, le))
stands_beyond (s ∷ ss) (suc n) le = stands_beyond ss n (omega (arith, le))

pub stands_get : (ss : List Standing) (n : ℕ) (s : Standing) → n < length ss → s ≡ get_or ss n s → standing_at ss n ≡ s
stands_get [] n s lt is = absurd (omega (arith, lt))
stands_get (x ∷ ss) zero s lt is = sym is
stands_get (x ∷ ss) (suc n) s lt is = stands_get ss n s (omega (arith, lt)) is

pub shown_at : (now : ℕ) (told : List Standing) (n : ℕ) → AllByRecursion (IsAsOf now) told → IsLive (standing_at told n).spent
shown_at now [] n all = tt
shown_at now (s ∷ told) zero all = all.0.live
shown_at now (s ∷ told) (suc n) all = shown_at now told n all.1

pub stand_at : (now : ℕ) (told : List Standing) (n : ℕ) → AllByRecursion (IsAsOf now) told → standing (standing_at told n).lock now ≡ (standing_at told n).lock
stand_at now [] n all = refl
stand_at now (s ∷ told) zero all = all.0.stands
stand_at now (s ∷ told) (suc n) all = stand_at now told n all.1

pub live_still : (ids : List Spent) → IsLive ids → still_spent ids 0 ≡ ids
live_still [] live = refl
live_still (one ∷ ids) live =
    ap (λ (b : Bool). if b then one ∷ still_spent ids 0 else still_spent ids 0) (lt-ltb 0 one.until live.0) ∙ ap (λ (rest : List Spent). one ∷ rest) (live_still ids live.1)

pub still_live : (ids : List Spent) (now : ℕ) → IsLive (still_spent ids now)
still_live [] now = tt
still_live (one ∷ ids) now = go (nat_lt now one.until) refl (still_live ids now) where
  go : (b : Bool) → nat_lt now one.until ≡ b → IsLive (still_spent ids now) → IsLive (if b then one ∷ still_spent ids now else still_spent ids now)
  go true at rest = (let late = ltb-true now one.until at in omega (arith, late), rest)
  go false at rest = rest

unheld : (now : ℕ) (s : Standing) → s.lock ≡ None → ended_at now s ≡ s
unheld now s e =
    ap (λ (l : Option Lock). record { lock = standing l now; spent = with_spent (expired l now) s.spent }) e
    ∙ ap (λ (l : Option Lock). record { lock = l; spent = s.spent }) (sym e)

-- ---- an id

-- a lock that began at 0 is put in and ends
pub id_here : (files : List Standing) (number : ℕ) (one : Spent) → number < length files → IsLive (standing_at files number).spent
    → standing_at (all_ended 1800000 (with_lock files number (Some (record { id = one.id; since = 0; until = one.until })) None 0)) number ≡ record { lock = None; spent = one ∷ (standing_at files number).spent }
id_here files number one lt live =
    let lock : Lock = record { id = one.id; since = 0; until = one.until } in
    stands_ended 1800000 (with_lock files number (Some lock) None 0) number
    ∙ ap (ended_at 1800000) (stands_set files number (Some lock) None 0 lt)
    ∙ ap (λ (ids : List Spent). record { lock = None; spent = one ∷ ids }) (live_still (standing_at files number).spent live)

pub id_others : (files : List Standing) (number other : ℕ) (lock : Lock) → IsFreeOf files → other ≢ number
    → standing_at (all_ended 1800000 (with_lock files number (Some lock) None 0)) other ≡ standing_at files other
id_others files number other lock free differ =
    stands_ended 1800000 (with_lock files number (Some lock) None 0) other
    ∙ ap (ended_at 1800000) (stands_beside files number (Some lock) None 0 other differ)
    ∙ unheld 1800000 (standing_at files other) (free other)

pub free_by : (old new : List Standing) (number : ℕ) (ids : List Spent) → IsFreeOf old → standing_at new number ≡ record { lock = None; spent = ids }
    → ((other : ℕ) → other ≢ number → standing_at new other ≡ standing_at old other) → IsFreeOf new
free_by old new number ids free here others = λ n. go n (n == number) refl where
  go : (n : ℕ) (b : Bool) → n == number ≡ b → (standing_at new n).lock ≡ None
  go n true at = ap (λ (m : ℕ). (standing_at new m).lock) (eqb-true n number at) ∙ ap (λ (s : Standing). s.lock) here
  go n false at = ap (λ (s : Standing). s.lock) (others n (eqb-false n number at)) ∙ free n

pub free_began : (files : List Standing) (number since : ℕ) (lock : Lock) → lock.since ≡ since → IsFreeOf files → GoesOn files number (Some lock)
free_began files number since lock is free = inr (λ n file held at holds. absurd (cc (sym holds ∙ sym (ap (λ (s : Standing). s.lock) (stands_of files n file at)) ∙ free n)))

-- ---- the ids of each file

-- the files before that place have their ids, and the others none
abbrev pub HoldsSome : ℕ → List Standing → List Standing → Type 0
HoldsSome place told files = (number : ℕ) →
    (number < place → standing_at files number ≡ record { lock = None; spent = (standing_at told number).spent })
    × (place ≤ number → standing_at files number ≡ unlocked)

pub holds_none : (told files : List Standing) → ((n : ℕ) → standing_at files n ≡ unlocked) → HoldsSome 0 told files
holds_none told files none = λ number. (λ lt. absurd (omega (arith, lt)), λ le. none number)

pub holds_free : (place : ℕ) (told files : List Standing) → HoldsSome place told files → IsFreeOf files
holds_free place told files some = λ n. go n (nat_lt n place) refl where
  go : (n : ℕ) (b : Bool) → nat_lt n place ≡ b → (standing_at files n).lock ≡ None
  go n true at = ap (λ (s : Standing). s.lock) ((some n).0 (ltb-true n place at))
  go n false at = ap (λ (s : Standing). s.lock) ((some n).1 (ltb-false n place at))

below : (n place : ℕ) → n < place + 1 → (n ≡ place → ⊥) → n < place
below n place lt differ = go (nat_lt n place) refl where
  go : (b : Bool) → nat_lt n place ≡ b → n < place
  go true at = ltb-true n place at
  go false at = let le = ltb-false n place at in absurd (differ (omega (arith, le, lt)))

pub holds_more : (place : ℕ) (told old new : List Standing) → HoldsSome place told old
    → standing_at new place ≡ record { lock = None; spent = (standing_at told place).spent }
    → ((other : ℕ) → other ≢ place → standing_at new other ≡ standing_at old other) → HoldsSome (place + 1) told new
holds_more place told old new some here others = λ n. (λ lt. before n lt (n == place) refl, λ le. others n (λ e. absurd (omega (arith, le, e))) ∙ (some n).1 (omega (arith, le))) where
  before : (n : ℕ) → n < place + 1 → (b : Bool) → n == place ≡ b → standing_at new n ≡ record { lock = None; spent = (standing_at told n).spent }
  before n lt true at = subst (λ (m : ℕ). standing_at new m ≡ record { lock = None; spent = (standing_at told m).spent }) (sym (eqb-true n place at)) here
  before n lt false at = let differ = eqb-false n place at in others n differ ∙ (some n).0 (below n place lt differ)

pub holds_all : (told files : List Standing) → HoldsSome (length told) told files → HoldsFrom told files
holds_all told files some = λ n. go n (nat_lt n (length told)) refl where
  go : (n : ℕ) (b : Bool) → nat_lt n (length told) ≡ b → standing_at files n ≡ record { lock = None; spent = (standing_at told n).spent }
  go n true at = (some n).0 (ltb-true n (length told) at)
  go n false at = let le = ltb-false n (length told) at in (some n).1 le ∙ sym (ap (λ (s : Standing). record { lock = None; spent = s.spent }) (stands_beyond told n le))

-- ---- and its lock

pub partly : (told files : List Standing) → HoldsFrom told files → IsPartly told files
partly told files holds = λ n. (ap (λ (s : Standing). s.spent) (holds n), inl (ap (λ (s : Standing). s.lock) (holds n)))

pub none_began : (told files : List Standing) (moment : ℕ) → HoldsFrom told files → BeganBy moment files
none_began told files moment holds = λ n file lock at is. absurd (cc (sym is ∙ sym (ap (λ (s : Standing). s.lock) (stands_of files n file at)) ∙ ap (λ (s : Standing). s.lock) (holds n)))

pub began_later : (files : List Standing) (early late : ℕ) → early ≤ late → BeganBy early files → BeganBy late files
began_later files early late le began = λ n file lock at is. let b = began n file lock at is in omega (arith, b, le)

pub lock_here : (files : List Standing) (number : ℕ) (lock : Lock) → number < length files → IsLive (standing_at files number).spent
    → standing_at (with_lock files number (Some lock) None 0) number ≡ record { lock = Some lock; spent = (standing_at files number).spent }
lock_here files number lock lt live =
    stands_set files number (Some lock) None 0 lt ∙ ap (λ (ids : List Spent). record { lock = Some lock; spent = ids }) (live_still (standing_at files number).spent live)

pub lock_began : (old new : List Standing) (number : ℕ) (lock : Lock) (ids : List Spent) → BeganBy lock.since old → number < length old → length new ≡ length old
    → standing_at new number ≡ record { lock = Some lock; spent = ids } → ((other : ℕ) → other ≢ number → standing_at new other ≡ standing_at old other) → BeganBy lock.since new
lock_began old new number lock ids began lt long here others = λ n file held at is. go n file held at is (n == number) refl where
  inside : (ss : List Standing) (n : ℕ) (s : Standing) → slice_get ss n ≡ Some s → n < length ss
  inside [] n s e = absurd (cc (e))
  inside (x ∷ ss) zero s e = omega arith
  inside (x ∷ ss) (suc n) s e = let rest = inside ss n s e in omega (arith, rest)

  some_since : (a b : Lock) → Some a ≡ Some b → a.since ≡ b.since
  some_since a b e = ap (λ (o : Option Lock). elim o [ None ↦ 0 | Some l ↦ l.since ]) e

  go : (n : ℕ) (file : Standing) (held : Lock) → slice_get new n ≡ Some file → file.lock ≡ Some held → (b : Bool) → n == number ≡ b → held.since ≤ lock.since
  go n file held at is true same =
      let stands : standing_at new number ≡ file = ap (standing_at new) (sym (eqb-true n number same)) ∙ stands_of new n file at in
      let since = some_since held lock (sym is ∙ ap (λ (s : Standing). s.lock) (sym stands ∙ here)) in
      omega (arith, since)
  go n file held at is false apart =
      let differ = eqb-false n number apart in
      let below = inside new n file at in
      let stands : standing_at old n ≡ file = sym (others n differ) ∙ stands_of new n file at in
      began n file held (stands_at old n (omega (arith, below, long)) ∙ ap (λ (s : Standing). Some s) stands) is

pub partly_put : (told old new : List Standing) (number : ℕ) (lock : Lock) → IsPartly told old → (standing_at told number).lock ≡ Some lock
    → standing_at new number ≡ record { lock = Some lock; spent = (standing_at old number).spent } → ((other : ℕ) → other ≢ number → standing_at new other ≡ standing_at old other) → IsPartly told new
partly_put told old new number lock part is here others = λ n. go n (n == number) refl where
  go : (n : ℕ) (b : Bool) → n == number ≡ b
      → ((standing_at new n).spent ≡ (standing_at told n).spent) × (((standing_at new n).lock ≡ None) ⊎ ((standing_at new n).lock ≡ (standing_at told n).lock))
  go n true at = subst (λ (m : ℕ). ((standing_at new m).spent ≡ (standing_at told m).spent) × (((standing_at new m).lock ≡ None) ⊎ ((standing_at new m).lock ≡ (standing_at told m).lock)))
      (sym (eqb-true n number at))
      (ap (λ (s : Standing). s.spent) here ∙ (part number).0, inr (ap (λ (s : Standing). s.lock) here ∙ sym is))
  go n false at =
      subst (λ (s : Standing). (s.spent ≡ (standing_at told n).spent) × ((s.lock ≡ None) ⊎ (s.lock ≡ (standing_at told n).lock))) (sym (others n (eqb-false n number at))) (part n)

-- a file whose lock isn't wanting has all
pub whole_at : (told files : List Standing) (n : ℕ) → ((standing_at files n).spent ≡ (standing_at told n).spent) × (((standing_at files n).lock ≡ None) ⊎ ((standing_at files n).lock ≡ (standing_at told n).lock)) → ((standing_at told n).lock ≡ None) ⊎ ((standing_at files n).lock ≡ None → ⊥) → standing_at files n ≡ standing_at told n
whole_at told files n part held = λ i. record { lock = lock held part.1 i; spent = part.0 i } where
  lock : ((standing_at told n).lock ≡ None) ⊎ ((standing_at files n).lock ≡ None → ⊥) → ((standing_at files n).lock ≡ None) ⊎ ((standing_at files n).lock ≡ (standing_at told n).lock)
      → (standing_at files n).lock ≡ (standing_at told n).lock
  lock held (inr same) = same
  lock (inl none) (inl free) = free ∙ sym none
  lock (inr there) (inl free) = absurd (there free)

begun_at : (now : ℕ) (ss : List Standing) (n : ℕ) → AllByRecursion (IsAsOf now) ss → BeganBefore now (standing_at ss n).lock
begun_at now [] n all = tt
begun_at now (s ∷ ss) zero all = all.0.began
begun_at now (s ∷ ss) (suc n) all = begun_at now ss n all.1

pub held_began : (told files : List Standing) (now : ℕ) → ((n : ℕ) → standing_at files n ≡ standing_at told n) → AllByRecursion (IsAsOf now) told → BeganBy now files
held_began told files now same all = λ n file lock at is.
    subst (BeganBefore now) (sym (ap (λ (s : Standing). s.lock) (same n)) ∙ ap (λ (s : Standing). s.lock) (stands_of files n file at) ∙ is) (begun_at now told n all)

-- and none is there that is over
pub all_stand : (told files : List Standing) (now n : ℕ) → ((n : ℕ) → n < length told → standing_at files n ≡ standing_at told n) → ((n : ℕ) → length told ≤ n → standing_at files n ≡ unlocked)
    → AllByRecursion (IsAsOf now) told → standing (standing_at files n).lock now ≡ (standing_at files n).lock
all_stand told files now n stands beyond all = go (nat_lt n (length told)) refl where
  go : (b : Bool) → nat_lt n (length told) ≡ b → standing (standing_at files n).lock now ≡ (standing_at files n).lock
  go true at = subst (λ (s : Standing). standing s.lock now ≡ s.lock) (sym (stands n (ltb-true n (length told) at))) (stand_at now told n all)
  go false at = subst (λ (s : Standing). standing s.lock now ≡ s.lock) (sym (beyond n (ltb-false n (length told) at))) refl

pub live_drop : (ids : List Spent) (n : ℕ) → IsLive ids → IsLive (drop n ids)
live_drop [] zero live = tt
live_drop [] (suc n) live = tt
live_drop (one ∷ ids) zero live = live
live_drop (one ∷ ids) (suc n) live = live_drop ids n live.1

pub live_at : (ids : List Spent) (n : ℕ) (one : Spent) → IsLive ids → n < length ids → one ≡ get_or ids n one → 0 < one.until
live_at [] n one live lt is = absurd (omega (arith, lt))
live_at (x ∷ ids) zero one live lt is = subst (λ (y : Spent). 0 < y.until) (sym is) live.0
live_at (x ∷ ids) (suc n) one live lt is = live_at ids n one live.1 (omega (arith, lt)) is

pub held_more : (place : ℕ) (told files : List Standing) → ((n : ℕ) → n < place → standing_at files n ≡ standing_at told n) → standing_at files place ≡ standing_at told place
    → (n : ℕ) → n < place + 1 → standing_at files n ≡ standing_at told n
held_more place told files so here n lt = go (n == place) refl where
  go : (b : Bool) → n == place ≡ b → standing_at files n ≡ standing_at told n
  go true at = subst (λ (m : ℕ). standing_at files m ≡ standing_at told m) (sym (eqb-true n place at)) here
  go false at = so n (below n place lt (eqb-false n place at))

-- all locks are held that were told, and no others
pub all_held : (told : List Standing) (now ids : ℕ) (locks : Locks) → IsPartly told locks.files → ((n : ℕ) → n < length told → standing_at locks.files n ≡ standing_at told n) → AllByRecursion (IsAsOf now) told
    → length told ≤ length locks.files → locks.latest ≡ 0 → AreChained locks → ids < locks.room → AreHeld told now ids locks
all_held told now ids locks part same all long latest chains room =
    let beyond : (n : ℕ) → length told ≤ n → standing_at locks.files n ≡ unlocked = λ n le. free_beyond told locks.files n le (part n) in
    let whole : (n : ℕ) → standing_at locks.files n ≡ standing_at told n = λ n. either n (nat_lt n (length told)) refl beyond in
    record {
      stands = same;
      beyond = beyond;
      as_of = record { began = held_began told locks.files now whole all; stepped = omega (arith, latest); chains = chains };
      long = long;
      room = room;
    }
  where
    free_beyond : (told files : List Standing) (n : ℕ) → length told ≤ n → ((standing_at files n).spent ≡ (standing_at told n).spent) × (((standing_at files n).lock ≡ None) ⊎ ((standing_at files n).lock ≡ (standing_at told n).lock))
        → standing_at files n ≡ unlocked
    free_beyond told files n le (spent, inl none) = λ i. record { lock = none i; spent = (spent ∙ ap (λ (s : Standing). s.spent) (stands_beyond told n le)) i }
    free_beyond told files n le (spent, inr same) = λ i. record { lock = (same ∙ ap (λ (s : Standing). s.lock) (stands_beyond told n le)) i; spent = (spent ∙ ap (λ (s : Standing). s.spent) (stands_beyond told n le)) i }

    either : (n : ℕ) (b : Bool) → nat_lt n (length told) ≡ b → ((n : ℕ) → length told ≤ n → standing_at locks.files n ≡ unlocked) → standing_at locks.files n ≡ standing_at told n
    either n true at beyond = same n (ltb-true n (length told) at)
    either n false at beyond = let le = ltb-false n (length told) at in beyond n le ∙ sym (stands_beyond told n le)
