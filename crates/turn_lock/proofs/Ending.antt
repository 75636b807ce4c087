-- The rule holds of a new lock, and what it says of a lock that ends.
use Rattle.std.proofs.Common.{IsSome, ◌≡◌, ◌≢◌, ⊎_elim, inl, ℕ, zero, suc, ◌^◌, List, [], ◌∷◌, set, length, Option, Some, refl, ap, sym, ◌∙◌, subst, arith}
use Rattle.std.proofs.lemmas.Bool.Decides.{nat_tests}
use mathlib.Core.Logic.{dite}
use native.Mathlib.Decide.{ℕ_discrete}
use mathlib.Core.Option.{some, some-injective, some-ne-none}
use mathlib.Core.List.{IsPrefix}
use lib.ListN.{get_elem?}
use Rattle.atomic_table.proofs.Lists.{set_else}
use Rattle.atomic_table.specs.Table.{State, Seen, Final, opening}
use Rattle.atomic_table.specs.declared.shared.Seat.{Seat}
use Rattle.turn_lock.specs.declared.view.View.{View}
use Rattle.turn_lock.specs.declared.view.Stage.{Stage}
use Rattle.turn_lock.specs.declared.view.Stage.TheVariants.{Free, Waiting, Turn, Joining}
use Rattle.turn_lock.specs.Places.{total, times, once_below, AreAllBelow}
use Rattle.turn_lock.specs.Turns.{first_view, Carries, HasNoTicket, HasTurn, ViewHolds, IsHome, IsOut, IsOrderly, spent_view}
use Rattle.turn_lock.proofs.Keeping.{views_stay, same_view}
use Rattle.turn_lock.proofs.Seating.{live_carries}
use Rattle.turn_lock.proofs.Sums.{total-set, total_one, total_zero}

at_one : {A : Type 0} (a : A) (j : ℕ) (b : A) → get_elem? (a ∷ []) j ≡ some b → a ≡ b
at_one a zero b e = some-injective a b e
at_one a (suc j) b e = absurd (some-ne-none b (sym e))

none_without_ticket : {E : Type 0} (now : Stage E) → HasNoTicket now → ¬ (HasTurn now)
none_without_ticket Free without turn = turn
none_without_ticket (Waiting t) without turn = turn
none_without_ticket (Turn t l) without turn = without
none_without_ticket (Joining xs ys) without turn = turn

module _ {T E B : Type 0} (entries : T → List E) (base : T → B) where
  abbrev W : Type 0
  W = View E B

  abbrev St : Type 0
  St = State (Option T) W

  abbrev Rule : St → Type 0
  Rule = IsOrderly entries base

  pub opens : (x : T) → entries x ≡ [] → Rule (opening (0 ∷ 0 ∷ 0 ∷ 0 ∷ []) (Some x ∷ []) (first_view (base x)))
  opens x e = record {
    ticket = 0;
    serving = 0;
    history = [];
    root = base x;
    holder = λ _. 0;
    bank = 0;
    words = refl;
    bounded = omega arith;
    ordered = omega arith;
    each_view = λ j v at. subst (ViewHolds 0 0 [] (base x) (λ _. 0) j) (at_one (first_view (base x)) j v at) record { begins = ([], refl); carries = refl; stage_holds = tt; weightless = λ h. absurd (omega arith) };
    owned = λ x. grind (arith, nat_tests);
    weighed = refl;
    slot = inl record { value = x; home = refl; whole = e; based = refl; no_turn = λ j v at t. subst (λ (w : W). HasTurn w.stage) (sym (at_one (first_view (base x)) j v at)) t };
  }

  -- a seat with all of the weight is the only one that owns a place, and no seat has the turn
  closes : (id : ℕ) (v : W) (ws : List ℕ) (xs : List (Option T)) → v.stage ≡ Free → v.weight ≡ 2 ^ 62 → Final (Seen Rule id v) ws xs
      → (x : T) × (get_elem? xs 0 ≡ some (Some x)) × IsPrefix v.seen (entries x) × Carries (base x) v.base × AreAllBelow (length (entries x)) v.own
  closes id v ws xs free whole f =
      let s : St = f.0 in
      let r : Rule s = f.1.0 in
      let at = f.1.1 in
      let mine = r.each_view id v at in
      let spent : W = spent_view in
      let weight : W → ℕ = λ u. u.weight in
      let none_left : total weight (set s.views id spent) ≡ 0 = let changed = total-set weight s.views id v spent at in let all = r.weighed in omega arith in
      let light : (j : ℕ) (u : W) → j ≢ id → get_elem? s.views j ≡ some u → u.weight ≡ 0 = λ j u other there.
      let one = total_one weight (set s.views id spent) j u (set_else s.views id j spent other ∙ there) in omega arith in
      let none_owned : (x : ℕ) → total (λ (u : W). times x u.own) (set s.views id spent) ≡ 0 = λ x.
      total_zero (λ (u : W). times x u.own) (set s.views id spent) (views_stay entries base (λ j u. times x u.own ≡ 0) s.views id spent refl
      (λ j u other there. ap (times x) ((r.each_view j u there).weightless (light j u other there)).1)) in
      let all_owned : (x : ℕ) → times x v.own ≡ once_below x (length r.history) = λ x.
      let changed = total-set (λ (u : W). times x u.own) s.views id v spent at in let all = r.owned x in let others = none_owned x in omega arith in
      let not_out : ¬ (IsOut entries base s) = λ o. dite (ℕ_discrete o.seat id)
      (λ e. subst HasTurn (ap (λ (u : W). u.stage) (same_view entries base s o.seat id o.view v e o.there at) ∙ free) o.turn)
      (λ other. none_without_ticket o.view.stage ((r.each_view o.seat o.view o.there).weightless (light o.seat o.view other o.there)).0 o.turn) in
      ⊎_elim (λ (h : IsHome entries base r.history r.root s). (
        h.value,
        f.4 0 (Some h.value) h.home,
        subst (IsPrefix v.seen) (sym h.whole) mine.begins,
        subst (λ (b : B). Carries b v.base) (sym h.based) mine.carries,
        λ x. all_owned x ∙ ap (λ (l : List E). once_below x (length l)) (sym h.whole),
      ))
      (λ (o : IsOut entries base s). absurd (not_out o)) r.slot

  -- what a seat and the value say of each other when the lock ends
  pub record Ends (place : Seat (Option T) W) (x : T) : Type 0 where
    pub begins : IsPrefix place.me.0.seen (entries x)
    pub based : place.me.0.base ≡ Some (base x)
    pub owned : AreAllBelow (length (entries x)) place.me.0.own

  pub ends : (place : Seat (Option T) W) (ws : List ℕ) (xs : List (Option T)) (found : Option T) → place.me.0.stage ≡ Free → place.me.0.weight ≡ 2 ^ 62 → IsSome place.me.0.base → Final (Seen Rule place.id place.me.0) ws xs → get_elem? xs 0 ≡ some found
      → (x : T) × (found ≡ Some x) × Ends place x
  ends place ws xs found free whole live f at =
      let last = closes place.id place.me.0 ws xs free whole f in
      (last.0, some-injective found (Some last.0) (sym at ∙ last.1), record { begins = last.2; based = live_carries (base last.0) place.me.0.base last.3 live; owned = last.4 })
