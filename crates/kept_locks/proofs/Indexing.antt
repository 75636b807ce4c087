-- How the index has of each file what its chain has.
use Rattle.std.proofs.Common.{◌≡◌, ◌≢◌, ◌⊎◌, inl, inr, ◌+◌, ◌^◌, ◌≤◌, ℕ, zero, suc, Bool, true, false, List, [], ◌∷◌, ◌++◌, ◌&&◌, ◌||◌, cond, length, Option, None, Some, refl, sym, ap, subst, ◌∙◌, arith, length-append}
use Rattle.std.specs.Prelude.{slice_get, bytes_eq, nat_eq, nat_lt, max}
use Rattle.std.proofs.lemmas.Bool.{cases_eq}
use Rattle.std.proofs.lemmas.Bool.Decides.{nat_tests}
use Rattle.std.proofs.lemmas.Option.{slice_get_within}
use Rattle.std.specs.HashMap.{HashMap, IsEmpty, get}
use Rattle.wopi_model.specs.Act.{is_spent}
use Rattle.wopi_model.specs.Settle.{still_spent}
use Rattle.wopi_model.specs.declared.locks.Spent.{Spent}
use Rattle.expiry_queue.specs.Chains.{Chains, IsLive, Becomes, spent_of}
use Rattle.expiry_queue.specs.Queue.{Queue}
use Rattle.expiry_queue.specs.Waiting.{Waiting}
use Rattle.kept_locks.specs.declared.index.SpentOn.{SpentOn}
use Rattle.kept_locks.specs.declared.places.Held.{Held}
use Rattle.kept_locks.specs.declared.places.Place.{Place}
use Rattle.kept_locks.specs.Keys.{is_same, same_parts}
use Rattle.kept_locks.specs.Refusals.{HasOnly, Tells, Notes, OthersStay, refused_by, ends_after, later_of}
use Rattle.kept_locks.specs.Ties.{Waits, OwnChains, AreTied, IsShort, Puts, IsIndexed, bare, held_at, ids_at}
use Rattle.kept_locks.proofs.Counting.{total_added}
use Rattle.kept_locks.proofs.Entries.{none_refused, others_refused, some_none}
use Rattle.kept_locks.proofs.Tying.{own_other, same_other}

either_end : (until known now : ℕ) → nat_lt now (max until known) ≡ nat_lt now until || nat_lt now known
either_end until known now = grind (arith, nat_tests)

-- a moment is before the later one of two ends where it is before one of them
before_later : (until now : ℕ) (known : Option ℕ) → nat_lt now (later_of until known) ≡ nat_lt now until || ends_after now known
before_later until now None = sym (none_after (nat_lt now until))
  where
    none_after : (b : Bool) → b || false ≡ b
    none_after true = refl
    none_after false = refl
before_later until now (Some known) = either_end until known now

pushed : (places : List Place) (last : Place) (j : ℕ) (p : Place) → slice_get (places ++ last ∷ []) j ≡ Some p → (slice_get places j ≡ Some p) ⊎ ((j ≡ length places) × (last ≡ p))
pushed [] last zero p e = inr (refl, cc)
pushed [] last (suc j) p e = absurd (cc)
pushed (first ∷ places) last zero p e = inl e
pushed (first ∷ places) last (suc j) p e = elim (pushed places last j p e) [
  | inl here ↦ inl here
  | inr there ↦ inr (ap suc there.0, there.1)
]

kept_at : (places : List Place) (last : Place) (j : ℕ) (p : Place) → slice_get places j ≡ Some p → slice_get (places ++ last ∷ []) j ≡ Some p
kept_at [] last zero p e = absurd (cc)
kept_at [] last (suc j) p e = absurd (cc)
kept_at (first ∷ places) last zero p e = e
kept_at (first ∷ places) last (suc j) p e = kept_at places last j p e

waits_added : (places : List Place) (waiting : List Waiting) → Waits places waiting → Waits (places ++ bare ∷ []) waiting
waits_added places waiting w = record {
  all = λ j p held found holds. elim (pushed places bare j p found) [
    | inl here ↦ w.all j p held here holds
    | inr there ↦ absurd (none_held held (ap (λ (q : Place). q.held) there.1 ∙ holds))
  ];
  only = λ key one found.
      let (place, held, stood, holds, is, keys) = w.only key one found in
      (place, held, kept_at places bare one.file place stood, holds, is, keys);
}
  where
    none_held : (held : Held) → None ≢ Some held
    none_held held e = absurd (cc (e))

own_added : (places : List Place) (chains : Chains) → OwnChains places chains → OwnChains (places ++ bare ∷ []) chains
own_added places chains own = record {
  live = λ j p found. elim (pushed places bare j p found) [
    | inl here ↦ own.live j p here
    | inr there ↦ subst (λ (q : Place). IsLive chains q.trail.chain) there.1 tt
  ];
  apart = λ j k p q found there e. elim (pushed places bare j p found) [
    | inl here ↦ elim (pushed places bare k q there) [
      | inl stood ↦ own.apart j k p q here stood e
      | inr last ↦ inr (e ∙ sym (ap (λ (x : Place). x.trail.chain) last.1))
    ]
    | inr last ↦ inr (sym (ap (λ (x : Place). x.trail.chain) last.1))
  ];
}

module _ {S : Type 0} where
  -- what the index says once an end was put under a key
  pub noted : (old new : HashMap SpentOn ℕ S) (file : ℕ) (id : List ℕ) (until : ℕ) → Notes old new (record { file = file; id = id }) until → (on : ℕ) (one : List ℕ) (now : ℕ)
      → refused_by new on one now ≡ ((nat_eq file on && bytes_eq id one) && nat_lt now until) || refused_by old on one now
  noted old new file id until notes on one now = by_test (is_same key asked) refl
    where
      key : SpentOn
      key = record { file = file; id = id }

      asked : SpentOn
      asked = record { file = on; id = one }

      said : Bool → Bool
      said same = ends_after now (cond same (Some (later_of until (get is_same old key))) (get is_same old asked))

      same_key : is_same key asked ≡ true → key ≡ asked
      same_key e = let parts = same_parts key asked e in λ i. record { file = parts.0 i; id = parts.1 i }

      by_test : (b : Bool) → is_same key asked ≡ b → ends_after now (get is_same new asked) ≡ (is_same key asked && nat_lt now until) || ends_after now (get is_same old asked)
      by_test true e =
          ap (ends_after now) (notes asked) ∙ ap said e ∙ before_later until now (get is_same old key)
          ∙ ap (λ (k : SpentOn). nat_lt now until || ends_after now (get is_same old k)) (same_key e)
          ∙ sym (ap (λ b. (b && nat_lt now until) || ends_after now (get is_same old asked)) e)
      by_test false e =
          ap (ends_after now) (notes asked) ∙ ap said e ∙ sym (ap (λ b. (b && nat_lt now until) || ends_after now (get is_same old asked)) e)

  -- one file's trail became another one, and the index says the same of all others
  pub indexed_put : (places places' : List Place) (old new : Chains) (before after : HashMap SpentOn ℕ S) (i : ℕ) (was place : Place) (spent : List Spent) → OwnChains places old → IsIndexed places old before
      → slice_get places i ≡ Some was → Becomes old.cells new.cells was.trail.chain place.trail.chain spent → Puts places places' i place → Tells (refused_by after i) new place.trail
      → HasOnly after i (spent_of new place.trail.chain)
      → OthersStay before after i → IsIndexed places' new after
  indexed_put places places' old new before after i was place spent own indexed at becomes puts told only others = record {
    tells = λ j p found. elim (cases_eq j i) [
      | inl same ↦
          let this : place ≡ p = cc (puts.here, found, same) in
          λ is id now from. ap (λ n. refused_by after n id now) same ∙ subst (λ (q : Place). Tells (refused_by after i) new q.trail) this told is id now from
      | inr differs ↦
          let stood : slice_get places j ≡ Some p = sym (puts.others j differs) ∙ found in
          let mine = own_other i j p.trail.chain was.trail.chain (λ e. own.apart j i p was stood at e) differs in
          let same = same_other old new was.trail.chain place.trail.chain p.trail.chain spent becomes (own.live j p stood) mine in
          λ is id now from. others_refused before after i others j id now differs ∙ indexed.tells j p stood is id now from ∙ sym (ap (λ (l : List Spent). is_spent (still_spent l now) id) same)
    ];
    only = λ j p found. elim (cases_eq j i) [
      | inl same ↦
          let this : place ≡ p = cc (puts.here, found, same) in
          subst (λ n. HasOnly after n (spent_of new p.trail.chain)) (sym same) (subst (λ (q : Place). HasOnly after i (spent_of new q.trail.chain)) this only)
      | inr differs ↦
          let stood : slice_get places j ≡ Some p = sym (puts.others j differs) ∙ found in
          let mine = own_other i j p.trail.chain was.trail.chain (λ e. own.apart j i p was stood at e) differs in
          let same = same_other old new was.trail.chain place.trail.chain p.trail.chain spent becomes (own.live j p stood) mine in
          subst (HasOnly after j) (sym same) (λ id until has. indexed.only j p stood id until (sym (others j id differs) ∙ has))
    ];
    beyond = λ j far id until has.
        let within = slice_get_within places i was at in
        let differs : j ≢ i = λ e. absurd (omega (arith, within, far, puts.long, e)) in
        let off : length places ≤ j = omega (arith, far, puts.long) in
        indexed.beyond j off id until (sym (others j id differs) ∙ has);
  }

  -- a file that was never locked came last
  pub indexed_added : (places : List Place) (chains : Chains) (index : HashMap SpentOn ℕ S) → IsIndexed places chains index → IsIndexed (places ++ bare ∷ []) chains index
  indexed_added places chains index indexed = record {
    tells = λ j p found. elim (pushed places bare j p found) [
      | inl here ↦ indexed.tells j p here
      | inr there ↦ subst (λ (q : Place). Tells (refused_by index j) chains q.trail) there.1 (λ is id now from. none_refused index j id now (indexed.beyond j (omega (arith, there.0))))
    ];
    only = λ j p found. elim (pushed places bare j p found) [
      | inl here ↦ indexed.only j p here
      | inr there ↦ subst (λ (q : Place). HasOnly index j (spent_of chains q.trail.chain)) there.1 (indexed.beyond j (omega (arith, there.0)))
    ];
    beyond = λ j far.
        let longer : length (places ++ bare ∷ []) ≡ length places + 1 = length-append places (bare ∷ []) in
        indexed.beyond j (omega (arith, far, longer));
  }

  pub tied_added : (places places' : List Place) (queue : Queue) (chains : Chains) (index : HashMap SpentOn ℕ S) → places' ≡ places ++ bare ∷ [] → length places' ≤ 2 ^ 32 → AreTied places queue chains index → AreTied places' queue chains index
  tied_added places places' queue chains index is few tied = subst (λ (l : List Place). AreTied l queue chains index) (sym is) (record {
    waits = waits_added places queue.waiting tied.waits;
    order = tied.order;
    own = own_added places chains tied.own;
    indexed = indexed_added places chains index tied.indexed;
    room = tied.room;
    held = total_added held_at places bare refl ∙ tied.held;
    used = total_added (ids_at chains) places bare refl ∙ tied.used;
    short = λ j p found. elim (pushed places bare j p found) [
      | inl here ↦ tied.short j p here
      | inr there ↦ subst (IsShort chains) there.1 (record { count = omega arith; short = omega arith; fresh = λ e. omega arith; told = λ e. refl })
    ];
    fits = tied.fits;
    few = subst (λ (l : List Place). length l ≤ 2 ^ 32) is few;
  })

  -- no files, and nothing in the index
  pub indexed_none : (chains : Chains) (index : HashMap SpentOn ℕ S) → IsEmpty index → IsIndexed [] chains index
  indexed_none chains index empty = record {
    tells = λ j p found. absurd (cc (found));
    only = λ j p found. absurd (cc (found));
    beyond = λ j far id until has. absurd (some_none until (sym (none_in index empty j id) ∙ has));
  }
    where
      none_in : (index : HashMap SpentOn ℕ S) → IsEmpty index → (j : ℕ) (id : List ℕ) → get is_same index (record { file = j; id = id }) ≡ None
      none_in index empty j id = rw empty
