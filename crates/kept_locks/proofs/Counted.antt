-- How long chains become.
use Rattle.std.proofs.Common.{◌≡◌, inl, inr, ◌+◌, ◌*◌, ◌-◌, ◌^◌, ◌<◌, ◌≤◌, ℕ, suc, true, false, List, [], ◌∷◌, ◌++◌, map, length, max, min, Option, None, Some, refl, sym, ap, subst, ◌∙◌, arith, if◌then◌else◌}
use Rattle.std.specs.Prelude.{slice_get, option_map}
use Rattle.std.proofs.lemmas.Bool.{cases_eq, cases_lt}
use Rattle.std.proofs.lemmas.Option.{slice_get-map}
use Rattle.wopi_model.specs.Settle.{expired, still_spent, with_spent}
use Rattle.wopi_model.specs.declared.locks.Spent.{Spent}
use Rattle.expiry_queue.specs.Chains.{Chains, Becomes, spent_of}
use Rattle.kept_locks.specs.declared.places.Place.{Place}
use Rattle.kept_locks.specs.declared.trail.Trail.{Trail}
use Rattle.expiry_queue.specs.Queue.{Queue}
use Rattle.std.specs.HashMap.{HashMap}
use Rattle.kept_locks.specs.declared.index.SpentOn.{SpentOn}
use Rattle.kept_locks.specs.Refusals.{IsCounted, LeavesFew, count_of, shown_of}
use Rattle.kept_locks.specs.Locks.{Standing, AllShort, LeavesAll, all_ended, ended_at, purged_at, so_many, spent_ids}
use Rattle.kept_locks.specs.Ties.{AreTied, IsShort, bare, OwnChains, Puts, chains_in, ids_at, lefts_in, one_if, standing_of, standings, total}
use Rattle.kept_locks.proofs.Parting.{fewer_still}
use Rattle.kept_locks.proofs.Purging.{PurgedTo}
use Rattle.kept_locks.proofs.Setting.{shown}
use Rattle.kept_locks.proofs.Tying.{own_other, same_other}

-- a chain of which those that are over have gone
pub counted_purged : (chains : Chains) (trail : Trail) → trail.count ≡ count_of (spent_of chains trail.chain) → trail.left ≡ trail.count → (trail.count ≡ 0 → trail.told ≡ true) → IsCounted chains trail 0
counted_purged chains trail count left told = record {
  count = count;
  short = omega (arith, left);
  fresh = λ purged. omega (arith, left);
  told = told;
}

pub leaves_purged : (chains : Chains) (trail result : Trail) → result.purged ≡ true → result.left ≡ count_of (spent_of chains result.chain) → LeavesFew chains trail result
leaves_purged chains trail result purged left =
    let shown : shown_of chains result ≡ spent_of chains result.chain = ap (λ b. if b then spent_of chains result.chain else still_spent (spent_of chains result.chain) result.as_of) purged in
    let long = ap (λ (l : List Spent). length l) shown in
    omega (arith, left, long)

-- a chain that stays, and is shown anew
pub counted_lazy : (chains : Chains) (trail result : Trail) (more : ℕ) → result.chain ≡ trail.chain → result.count ≡ trail.count → result.left ≡ trail.left → result.purged ≡ false → result.told ≡ trail.told → IsCounted chains trail more → IsCounted chains result 0
counted_lazy chains trail result more chain count left lazy told h =
    let short = h.short in
    record {
      count = count ∙ h.count ∙ ap (λ (c : Option ℕ). count_of (spent_of chains c)) (sym chain);
      short = omega (arith, count, left, short);
      fresh = λ purged. absurd (cc (purged, lazy));
      told = λ none. told ∙ h.told (sym count ∙ none);
    }

pub counted_more : (chains : Chains) (trail : Trail) (few more : ℕ) → few ≤ more → IsCounted chains trail few → IsCounted chains trail more
counted_more chains trail few more le h = record {
  count = h.count;
  short = h.short;
  fresh = λ purged. let by = h.fresh purged in omega (arith, by, le);
  told = h.told;
}

pub leaves_both : (mid new : Chains) (trail between result : Trail) → LeavesFew mid trail between → LeavesFew new between result → length (shown_of mid between) ≤ length (shown_of new result) → LeavesFew new trail result
leaves_both mid new trail between result first second le = omega (arith, first, second, le)

-- one id more
pub counted_front : (old new : Chains) (ready result : Trail) (one : Spent) (more : ℕ) → spent_of new result.chain ≡ one ∷ spent_of old ready.chain → result.count ≡ min (ready.count + 1) (2 ^ 64 - 1) → result.left ≡ ready.left
    → result.purged ≡ ready.purged → ready.count + 1 ≤ max 8 (2 * ready.left) → IsCounted old ready more → IsCounted new result (more + 1)
counted_front old new ready result one more is count left purged short h =
    let longer : length (spent_of new result.chain) ≡ suc (length (spent_of old ready.chain)) = ap (λ (l : List Spent). length l) is in
    let before = h.count in
    record {
      count = omega (arith, longer, before, count);
      short = omega (arith, count, left, short);
      fresh = λ now. let by = h.fresh (sym purged ∙ now) in omega (arith, by, count, left);
      told = λ none. absurd (omega (arith, none, count));
    }

counted_same : (old new : Chains) (trail : Trail) (more : ℕ) → spent_of new trail.chain ≡ spent_of old trail.chain → IsCounted old trail more → IsCounted new trail more
counted_same old new trail more same h = record { count = h.count ∙ ap (λ (l : List Spent). count_of l) (sym same); short = h.short; fresh = h.fresh; told = h.told }

-- one file's trail became another one
pub short_put : (places places' : List Place) (old new : Chains) (i : ℕ) (was place : Place) (spent : List Spent) → OwnChains places old → ((j : ℕ) (p : Place) → slice_get places j ≡ Some p → IsShort old p)
    → slice_get places i ≡ Some was → Becomes old.cells new.cells was.trail.chain place.trail.chain spent → Puts places places' i place → IsShort new place
    → (j : ℕ) (p : Place) → slice_get places' j ≡ Some p → IsShort new p
short_put places places' old new i was place spent own each at becomes puts this j p found = elim (cases_eq j i) [
  | inl same ↦
      let is : place ≡ p = cc (puts.here, found, same) in
      subst (IsShort new) is this
  | inr differs ↦
      let stood : slice_get places j ≡ Some p = sym (puts.others j differs) ∙ found in
      let mine = own_other i j p.trail.chain was.trail.chain (λ e. own.apart j i p was stood at e) differs in
      let same = same_other old new was.trail.chain place.trail.chain p.trail.chain spent becomes (own.live j p stood) mine in
      counted_same old new p.trail (2 - one_if p.held) same (each j p stood)
]

abbrev left_of : Place → ℕ
left_of place = place.trail.left

-- one file's chain was purged, or none
pub left_put : (places places' : List Place) (i : ℕ) (was place : Place) (files : List Standing) → slice_get places i ≡ Some was → Puts places places' i place
    → place.trail.left ≤ max was.trail.left (so_many (option_map spent_ids (slice_get files i))) → LeavesAll (lefts_in places) (lefts_in places') files
left_put places places' i was place files at puts le n = elim (cases_eq n i) [
  | inl same ↦
      let old : so_many (slice_get (lefts_in places) n) ≡ was.trail.left = ap (λ m. so_many (slice_get (lefts_in places) m)) same ∙ ap so_many (slice_get-map left_of places i ∙ ap (option_map left_of) at) in
      let new : so_many (slice_get (lefts_in places') n) ≡ place.trail.left = ap (λ m. so_many (slice_get (lefts_in places') m)) same ∙ ap so_many (slice_get-map left_of places' i ∙ ap (option_map left_of) puts.here) in
      let here : so_many (option_map spent_ids (slice_get files n)) ≡ so_many (option_map spent_ids (slice_get files i)) = ap (λ m. so_many (option_map spent_ids (slice_get files m))) same in
      omega (arith, old, new, here, le)
  | inr differs ↦
      let stays : so_many (slice_get (lefts_in places') n) ≡ so_many (slice_get (lefts_in places) n) =
      ap so_many (slice_get-map left_of places' n ∙ ap (option_map left_of) (puts.others n differs) ∙ sym (slice_get-map left_of places n)) in
      omega (arith, stays)
]

pub leaves_next : (first second third : List ℕ) (files later : List Standing) → LeavesAll first second files → LeavesAll second third later
    → ((n : ℕ) → so_many (option_map spent_ids (slice_get later n)) ≤ so_many (option_map spent_ids (slice_get files n))) → LeavesAll first third files
leaves_next first second third files later one two shorter n =
    let x = one n in
    let y = two n in
    let le = shorter n in
    omega (arith, x, y, le)

all_short : (chains : Chains) (places : List Place) → ((j : ℕ) (p : Place) → slice_get places j ≡ Some p → IsShort chains p) → total (ids_at chains) places < 2 ^ 64 → AllShort (chains_in chains places) (lefts_in places)
all_short chains [] each few = tt
all_short chains (place ∷ places) each few =
    let this = each 0 place refl in
    let count = this.count in
    let short = this.short in
    let rest : total (ids_at chains) places < 2 ^ 64 = omega (arith, few) in
    (omega (arith, count, short, few), all_short chains places (λ j. each (suc j)) rest)

-- no chain is long
pub tied_short : {S : Type 0} (places : List Place) (queue : Queue) (chains : Chains) (index : HashMap SpentOn ℕ S) → AreTied places queue chains index → AllShort (chains_in chains places) (lefts_in places)
tied_short places queue chains index tied =
    let used = tied.used in
    let fits = tied.fits in
    all_short chains places tied.short (omega (arith, used, fits))

-- what the purges of all chains left, where nothing came since
pub purged_lefts : {S : Type 0} (places : List Place) (queue : Queue) (chains : Chains) (index : HashMap SpentOn ℕ S) → AreTied places queue chains index
    → ((j : ℕ) (p : Place) → slice_get places j ≡ Some p → p.trail.left ≡ p.trail.count) → lefts_in places ≡ map length (chains_in chains places)
purged_lefts places queue chains index tied fresh =
    let used = tied.used in
    let fits = tied.fits in
    each places tied.short fresh (omega (arith, used, fits))
  where
    each : (places : List Place) → ((j : ℕ) (p : Place) → slice_get places j ≡ Some p → IsShort chains p) → ((j : ℕ) (p : Place) → slice_get places j ≡ Some p → p.trail.left ≡ p.trail.count)
        → total (ids_at chains) places < 2 ^ 64 → lefts_in places ≡ map length (chains_in chains places)
    each [] short fresh few = refl
    each (place ∷ places) short fresh few =
        let this = short 0 place refl in
        let count = this.count in
        let left = fresh 0 place refl in
        let here : place.trail.left ≡ length (spent_of chains place.trail.chain) = omega (arith, count, left, few) in
        let rest = each places (λ j. short (suc j)) (λ j. fresh (suc j)) (omega (arith, few)) in
        ap (λ (n : ℕ). n ∷ lefts_in places) here ∙ ap (λ (l : List ℕ). length (spent_of chains place.trail.chain) ∷ l) rest

-- a lock's id may come later
pub short_held : {A : Type 0} (chains : Chains) (trail : Trail) (few : ℕ) → few ≤ 1 → (held : Option A) → IsCounted chains trail few → IsCounted chains trail (2 - one_if held)
short_held chains trail few le None h = counted_more chains trail few 2 (omega (arith, le)) h
short_held chains trail few le (Some one) h = counted_more chains trail few 1 le h

pub short_any : {A : Type 0} (chains : Chains) (trail : Trail) (held : Option A) → IsCounted chains trail (2 - one_if held) → IsCounted chains trail 2
short_any chains trail None h = h
short_any chains trail (Some one) h = counted_more chains trail 1 2 (omega arith) h

-- what is shown of a file
pub shown_long : (chains : Chains) (places : List Place) (i : ℕ) (place : Place) → slice_get places i ≡ Some place → so_many (option_map spent_ids (slice_get (standings chains places) i)) ≡ length (shown_of chains place.trail)
shown_long chains places i place at = ap (λ (o : Option Standing). so_many (option_map spent_ids o)) (shown chains places i place at)

spent_long : (one : Option Spent) (ids : List Spent) → length ids ≤ length (with_spent one ids)
spent_long None ids = omega arith
spent_long (Some one) ids = omega arith

pub ended_long : (chains : Chains) (places : List Place) (i now : ℕ) (place : Place) → slice_get places i ≡ Some place
    → length (shown_of chains place.trail) ≤ so_many (option_map spent_ids (slice_get (all_ended now (standings chains places)) i))
ended_long chains places i now place at =
    let here = standing_of chains place in
    let is : so_many (option_map spent_ids (slice_get (all_ended now (standings chains places)) i)) ≡ length (with_spent (expired here.lock now) here.spent) =
    ap (λ (o : Option Standing). so_many (option_map spent_ids o)) (slice_get-map (ended_at now) (standings chains places) i ∙ ap (option_map (ended_at now)) (shown chains places i place at)) in
    let more = spent_long (expired here.lock now) here.spent in
    omega (arith, is, more)

purged_long : (now : ℕ) (file : Option Standing) → so_many (option_map spent_ids (option_map (purged_at now) file)) ≤ so_many (option_map spent_ids file)
purged_long now None = omega arith
purged_long now (Some file) = fewer_still file.spent now

-- where files up to a number were purged, no file has more ids than before
pub purged_shorter : (old new : List Place) (before after : Chains) (upto now : ℕ) → PurgedTo old new before after upto now
    → (n : ℕ) → so_many (option_map spent_ids (slice_get (standings after new) n)) ≤ so_many (option_map spent_ids (slice_get (standings before old) n))
purged_shorter old new before after upto now p n = elim (cases_lt n upto) [
  | inl lt ↦
      let is = ap (λ (o : Option Standing). so_many (option_map spent_ids o)) (p.below n lt) in
      let le = purged_long now (slice_get (standings before old) n) in
      omega (arith, is, le)
  | inr le ↦
      let is = ap (λ (o : Option Standing). so_many (option_map spent_ids o)) (p.above n le) in
      omega (arith, is)
]

pub lefts_added : (places places' : List Place) → places' ≡ places ++ bare ∷ [] → lefts_in places' ≡ lefts_in places ++ 0 ∷ []
lefts_added places places' is = ap lefts_in is ∙ added places
  where
    added : (places : List Place) → lefts_in (places ++ bare ∷ []) ≡ lefts_in places ++ 0 ∷ []
    added [] = refl
    added (first ∷ places) = ap (λ (l : List ℕ). first.trail.left ∷ l) (added places)

pub chains_added : (chains : Chains) (places places' : List Place) → places' ≡ places ++ bare ∷ [] → chains_in chains places' ≡ chains_in chains places ++ [] ∷ []
chains_added chains places places' is = ap (chains_in chains) is ∙ added places
  where
    added : (places : List Place) → chains_in chains (places ++ bare ∷ []) ≡ chains_in chains places ++ [] ∷ []
    added [] = refl
    added (first ∷ places) = ap (λ (l : List (List Spent)). spent_of chains first.trail.chain ∷ l) (added places)
