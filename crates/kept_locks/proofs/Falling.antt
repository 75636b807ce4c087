-- Chains that become shorter, and what their purges leave.
use Rattle.std.proofs.Common.{◌≡◌, ◌≢◌, inl, inr, ◌<◌, ◌≤◌, ℕ, List, map, length, max, Option, None, Some, refl, sym, ap, ◌∙◌, arith}
use Rattle.std.specs.Prelude.{slice_get, option_map}
use Rattle.std.proofs.lemmas.Bool.{cases_eq, cases_lt}
use Rattle.std.proofs.lemmas.Option.{slice_get-map}
use Rattle.wopi_model.specs.declared.locks.Spent.{Spent}
use Rattle.expiry_queue.specs.Chains.{Chains, Becomes, spent_of}
use Rattle.kept_locks.specs.declared.places.Place.{Place}
use Rattle.kept_locks.specs.declared.trail.Trail.{Trail}
use Rattle.kept_locks.specs.Refusals.{FallsTo, LeavesFew}
use Rattle.kept_locks.specs.Locks.{AreBeside, Falls, long_at, so_many}
use Rattle.kept_locks.specs.Ties.{OwnChains, Puts, chains_in, lefts_in}
use Rattle.kept_locks.proofs.Tying.{own_other, same_other}
use Rattle.kept_locks.proofs.Placing.{shown_whole}

-- one trail, another one, and a third
pub falls_both : (first second third : Chains) (trail mid result : Trail) → FallsTo first second trail mid → FallsTo second third mid result → LeavesFew third mid result → FallsTo first third trail result
falls_both first second third trail mid result one two few lt = elim (cases_lt (length (spent_of third result.chain)) (length (spent_of second mid.chain))) [
  | inl less ↦ two less
  | inr more ↦
      let here : length (spent_of second mid.chain) < length (spent_of first trail.chain) = omega (arith, lt, more) in
      let left = one here in
      let shown = shown_whole third result in
      omega (arith, left, few, shown, more)
]

abbrev left_of : Place → ℕ
left_of place = place.trail.left

abbrev ids_in : Chains → Place → List Spent
ids_in chains place = spent_of chains place.trail.chain

left_at : (places : List Place) (n : ℕ) (place : Place) → slice_get places n ≡ Some place → so_many (slice_get (lefts_in places) n) ≡ place.trail.left
left_at places n place at = ap so_many (slice_get-map left_of places n ∙ ap (option_map left_of) at)

long_is : (chains : Chains) (places : List Place) (n : ℕ) (place : Place) → slice_get places n ≡ Some place → long_at (chains_in chains places) n ≡ length (spent_of chains place.trail.chain)
long_is chains places n place at = ap (λ (o : Option (List Spent)). so_many (option_map length o)) (slice_get-map (ids_in chains) places n ∙ ap (option_map (ids_in chains)) at)

-- one file's chain became another one, and the others stay
pub beside_put : (places places' : List Place) (old new : Chains) (i : ℕ) (was place : Place) (spent : List Spent) → OwnChains places old → slice_get places i ≡ Some was
    → Becomes old.cells new.cells was.trail.chain place.trail.chain spent → Puts places places' i place → AreBeside (chains_in old places) (chains_in new places') i
beside_put places places' old new i was place spent own at becomes puts n differs =
    slice_get-map (ids_in new) places' n ∙ ap (option_map (ids_in new)) (puts.others n differs) ∙ beside (slice_get places n) refl ∙ sym (slice_get-map (ids_in old) places n)
  where
    beside : (found : Option Place) → slice_get places n ≡ found → option_map (ids_in new) found ≡ option_map (ids_in old) found
    beside None e = refl
    beside (Some p) e =
        let mine = own_other i n p.trail.chain was.trail.chain (λ same. own.apart n i p was e at same) differs in
        ap Some (same_other old new was.trail.chain place.trail.chain p.trail.chain spent becomes (own.live n p e) mine)

-- one file's trail became another one
pub falls_put : (places places' : List Place) (old new : Chains) (i : ℕ) (was place : Place) (spent : List Spent) → OwnChains places old → slice_get places i ≡ Some was
    → Becomes old.cells new.cells was.trail.chain place.trail.chain spent → Puts places places' i place → LeavesFew new was.trail place.trail → FallsTo old new was.trail place.trail
    → Falls (lefts_in places) (lefts_in places') (chains_in old places) (chains_in new places')
falls_put places places' old new i was place spent own at becomes puts few falls = record { most = most; shorter = shorter }
  where
    lefts_stay : (n : ℕ) → n ≢ i → so_many (slice_get (lefts_in places') n) ≡ so_many (slice_get (lefts_in places) n)
    lefts_stay n differs = ap so_many (slice_get-map left_of places' n ∙ ap (option_map left_of) (puts.others n differs) ∙ sym (slice_get-map left_of places n))

    long_stays : (n : ℕ) → n ≢ i → long_at (chains_in new places') n ≡ long_at (chains_in old places) n
    long_stays n differs = ap (λ (o : Option (List Spent)). so_many (option_map length o)) (beside_put places places' old new i was place spent own at becomes puts n differs)

    most : (n : ℕ) → so_many (slice_get (lefts_in places') n) ≤ max (so_many (slice_get (lefts_in places) n)) (long_at (chains_in new places') n)
    most n = elim (cases_eq n i) [
      | inl same ↦
          let old_left = left_at places n was (ap (slice_get places) same ∙ at) in
          let new_left = left_at places' n place (ap (slice_get places') same ∙ puts.here) in
          let long = long_is new places' n place (ap (slice_get places') same ∙ puts.here) in
          let shown = shown_whole new place.trail in
          omega (arith, old_left, new_left, long, shown, few)
      | inr differs ↦ let stays = lefts_stay n differs in omega (arith, stays)
    ]

    shorter : (n : ℕ) → long_at (chains_in new places') n < long_at (chains_in old places) n → so_many (slice_get (lefts_in places') n) ≤ long_at (chains_in new places') n
    shorter n lt = elim (cases_eq n i) [
      | inl same ↦
          let new_left = left_at places' n place (ap (slice_get places') same ∙ puts.here) in
          let long = long_is old places n was (ap (slice_get places) same ∙ at) in
          let long' = long_is new places' n place (ap (slice_get places') same ∙ puts.here) in
          let here : length (spent_of new place.trail.chain) < length (spent_of old was.trail.chain) = omega (arith, lt, long, long') in
          let left = falls here in
          omega (arith, new_left, long', left)
      | inr differs ↦ let stays = long_stays n differs in absurd (omega (arith, lt, stays))
    ]

pub falls_next : (first second third : List ℕ) (chains chains' chains'' : List (List Spent)) → Falls first second chains chains' → Falls second third chains' chains'' → Falls first third chains chains''
falls_next first second third chains chains' chains'' a b = record {
  most = λ n. elim (cases_lt (long_at chains'' n) (long_at chains' n)) [
    | inl less ↦ let there = b.shorter n less in omega (arith, there)
    | inr more ↦ let here = a.most n in let there = b.most n in omega (arith, here, there, more)
  ];
  shorter = λ n lt. elim (cases_lt (long_at chains'' n) (long_at chains' n)) [
    | inl less ↦ b.shorter n less
    | inr more ↦
        let before : long_at chains' n < long_at chains n = omega (arith, lt, more) in
        let here = a.shorter n before in
        let there = b.most n in
        omega (arith, here, there, more)
  ];
}

-- nothing changed
pub falls_none : (left : List ℕ) (chains : List (List Spent)) → Falls left left chains chains
falls_none left chains = record { most = λ n. omega arith; shorter = λ n lt. absurd (omega (arith, lt)) }

long_each : (chains : List (List Spent)) (n : ℕ) → so_many (slice_get (map length chains) n) ≡ long_at chains n
long_each chains n = ap so_many (slice_get-map (λ (chain : List Spent). length chain) chains n)

-- all chains were purged
pub falls_fresh : (left left' : List ℕ) (chains chains' : List (List Spent)) → left' ≡ map length chains' → Falls left left' chains chains'
falls_fresh left left' chains chains' fresh = record { most = λ n. let here = is n in omega (arith, here); shorter = λ n lt. let here = is n in omega (arith, here) }
  where
    is : (n : ℕ) → so_many (slice_get left' n) ≡ long_at chains' n
    is n = ap (λ (l : List ℕ). so_many (slice_get l n)) fresh ∙ long_each chains' n
