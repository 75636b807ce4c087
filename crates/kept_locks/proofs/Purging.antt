-- Files of whose ids those go that are over.
use Rattle.std.proofs.Common.{◌≡◌, ◌≢◌, inl, inr, ◌<◌, ◌≤◌, ℕ, zero, suc, true, if◌then◌else◌, List, [], ◌∷◌, map, length, Option, None, Some, refl, sym, ap, subst, ◌∙◌, arith}
use Rattle.std.specs.Prelude.{slice_get, option_map}
use Rattle.std.proofs.lemmas.Bool.{cases_eq, cases_lt}
use Rattle.std.proofs.lemmas.Option.{slice_get-map}
use Rattle.wopi_model.specs.Settle.{still_spent}
use Rattle.wopi_model.specs.declared.locks.Spent.{Spent}
use Rattle.expiry_queue.specs.Chains.{Chains, spent_of}
use Rattle.kept_locks.specs.declared.places.Held.{Held}
use Rattle.kept_locks.specs.declared.places.Place.{Place}
use Rattle.kept_locks.specs.Refusals.{Goes, shown_of}
use Rattle.kept_locks.specs.Locks.{all_purged, ids_of, purged_at}
use Rattle.kept_locks.specs.Ties.{IsPurged, OwnChains, Puts, Purges, chains_in, lock_of, standing_of, standings}
use Rattle.kept_locks.proofs.Setting.{shown}
use Rattle.kept_locks.proofs.Tying.{same_list, shows_same}

-- one file's trail was purged
pub purges_put : (places places' : List Place) (old new : Chains) (i : ℕ) (was place : Place) (now : ℕ) → OwnChains places old → slice_get places i ≡ Some was
    → Goes old new was.trail place.trail (still_spent (shown_of old was.trail) now) → place.held ≡ was.held → IsPurged place → Puts places places' i place → Purges places places' old new i now
purges_put places places' old new i was place now own at goes held purged puts = record {
  here = shown new places' i place puts.here ∙ ap Some changed ∙ sym (ap (option_map (purged_at now)) (shown old places i was at));
  others = λ j differs.
      slice_get-map (standing_of new) places' j ∙ ap (option_map (standing_of new)) (puts.others j differs) ∙ beside j differs (slice_get places j) refl
      ∙ sym (slice_get-map (standing_of old) places j);
  purged = λ p found. let this : place ≡ p = cc (puts.here, found) in subst IsPurged this purged;
  beside = puts.others;
  long = puts.long;
}
  where
    changed : standing_of new place ≡ purged_at now (standing_of old was)
    changed = ap (λ (h : Option Held). record { lock = option_map lock_of h; spent = shown_of new place.trail }) held
        ∙ ap (λ (l : List Spent). record { lock = option_map lock_of was.held; spent = l }) goes.shows

    beside : (j : ℕ) → j ≢ i → (found : Option Place) → slice_get places j ≡ found → option_map (standing_of new) found ≡ option_map (standing_of old) found
    beside j differs None e = refl
    beside j differs (Some p) e = ap Some (shows_same places old new i was place.trail.chain (spent_of new place.trail.chain) own at goes.becomes j p differs e)

-- the files up to a number were purged, and the others stay
pub record PurgedTo (old new : List Place) (before after : Chains) (upto now : ℕ) : Type 0 where
  pub below : (j : ℕ) → j < upto → slice_get (standings after new) j ≡ option_map (purged_at now) (slice_get (standings before old) j)
  pub above : (j : ℕ) → upto ≤ j → slice_get (standings after new) j ≡ slice_get (standings before old) j
  pub purged : (j : ℕ) (place : Place) → j < upto → slice_get new j ≡ Some place → IsPurged place
  pub long : length new ≡ length old

pub purged_none : (places : List Place) (chains : Chains) (now : ℕ) → PurgedTo places places chains chains 0 now
purged_none places chains now = record {
  below = λ j lt. absurd (omega (arith, lt));
  above = λ j le. refl;
  purged = λ j place lt found. absurd (omega (arith, lt));
  long = refl;
}

pub purged_next : (old mid new : List Place) (before between after : Chains) (upto now : ℕ) → PurgedTo old mid before between upto now → Purges mid new between after upto now
    → PurgedTo old new before after (suc upto) now
purged_next old mid new before between after upto now p q = record {
  below = λ j lt. elim (cases_eq j upto) [
    | inl here ↦
        ap (slice_get (standings after new)) here ∙ q.here ∙ ap (option_map (purged_at now)) (p.above upto (omega arith))
        ∙ sym (ap (λ n. option_map (purged_at now) (slice_get (standings before old) n)) here)
    | inr differs ↦ q.others j differs ∙ p.below j (omega (arith, lt, differs))
  ];
  above = λ j le.
      let differs : j ≢ upto = λ e. absurd (omega (arith, le, e)) in
      q.others j differs ∙ p.above j (omega (arith, le));
  purged = λ j place lt found. elim (cases_eq j upto) [
    | inl here ↦ q.purged place (ap (slice_get new) (sym here) ∙ found)
    | inr differs ↦ p.purged j place (omega (arith, lt, differs)) (sym (q.beside j differs) ∙ found)
  ];
  long = q.long ∙ p.long;
}

past_end : (chains : Chains) (places : List Place) (j : ℕ) → length places ≤ j → slice_get (standings chains places) j ≡ None
past_end chains [] j le = refl
past_end chains (place ∷ places) zero le = absurd (omega (arith, le))
past_end chains (place ∷ places) (suc j) le = past_end chains places j (omega (arith, le))

-- all files were purged
pub purged_files : (old new : List Place) (before after : Chains) (upto now : ℕ) → PurgedTo old new before after upto now → length new ≤ upto → standings after new ≡ all_purged now (standings before old)
purged_files old new before after upto now p all = same_list (standings after new) (all_purged now (standings before old)) each
  where
    each : (j : ℕ) → slice_get (standings after new) j ≡ slice_get (all_purged now (standings before old)) j
    each j = elim (cases_lt j upto) [
      | inl lt ↦ p.below j lt ∙ sym (slice_get-map (purged_at now) (standings before old) j)
      | inr le ↦
          let gone = past_end after new j (omega (arith, all, le)) in
          gone ∙ sym (ap (option_map (purged_at now)) (sym (p.above j le) ∙ gone)) ∙ sym (slice_get-map (purged_at now) (standings before old) j)
    ]

-- then chains have what is shown
pub purged_ids : (chains : Chains) (places : List Place) → ((j : ℕ) (place : Place) → slice_get places j ≡ Some place → place.trail.purged ≡ true) → chains_in chains places ≡ map ids_of (standings chains places)
purged_ids chains [] all = refl
purged_ids chains (place ∷ places) all =
    let here : spent_of chains place.trail.chain ≡ shown_of chains place.trail =
    sym (ap (λ b. if b then spent_of chains place.trail.chain else still_spent (spent_of chains place.trail.chain) place.trail.as_of) (all 0 place refl)) in
    ap (λ (l : List Spent). l ∷ chains_in chains places) here ∙ ap (λ (l : List (List Spent)). shown_of chains place.trail ∷ l) (purged_ids chains places (λ j. all (suc j)))
