-- What a seat between two calls knows of its place.
use Rattle.std.proofs.Common.{◌≡◌, ℕ, ◌<◌, ◌≤◌, List, [], ◌∷◌, ◌++◌, length, Option, Some, None, IsSome, IsSomeAnd, refl, ap, sym, ◌∙◌, subst}
use mathlib.Core.List.{IsPrefix}
use Rattle.atomic_table.specs.Table.{rest}
use Rattle.atomic_table.specs.declared.shared.Seat.{Seat}
use Rattle.turn_lock.specs.declared.view.View.{View}
use Rattle.turn_lock.specs.declared.view.Stage.{Stage}
use Rattle.turn_lock.specs.declared.view.Stage.TheVariants.{Free, Waiting, Turn, Joining}
use Rattle.turn_lock.specs.Turns.{Carries, whole_weight}
use Rattle.turn_lock.specs.Steps.{Standing, with_stage, with_counted}
use Rattle.turn_lock.specs.Seats.{taken_of, Rests, seated, IsSeated, added_places}

module _ {T E : Type 0} where
  pub free_stage : (count : ℕ) (cs : List (ℕ × Option T)) (now : Stage E) → Rests count cs now → taken_of now ≡ None → (now ≡ Free) × (cs ≡ [])
  free_stage count cs Free r e = (refl, r)
  free_stage count cs (Waiting t) r e = absurd r
  free_stage count cs (Turn t l) r e = cc
  free_stage count cs (Joining xs ys) r e = absurd r

  pub turn_stage : (count : ℕ) (cs : List (ℕ × Option T)) (now : Stage E) (l : List E) → Rests count cs now → taken_of now ≡ Some l → (t : ℕ) × (now ≡ Turn t l) × (cs ≡ (0, None) ∷ []) × (count ≡ length l)
  turn_stage count cs Free l r e = cc
  turn_stage count cs (Waiting t) l r e = absurd r
  turn_stage count cs (Turn t k) l r e = let same : k ≡ l = cc in (t, ap (Turn t) same, r.0, r.1 ∙ ap length same)
  turn_stage count cs (Joining xs ys) l r e = absurd r

pub some_and : {E : Type 0} (o : Option (List E)) (ys : List E) → IsSomeAnd o (λ xs. IsPrefix xs ys) → (xs : List E) × (o ≡ Some xs) × IsPrefix xs ys
some_and None ys h = absurd h
some_and (Some xs) ys h = (xs, refl, h)

pub live_carries : {B : Type 0} (b : B) (o : Option B) → Carries b o → IsSome o → o ≡ Some b
live_carries b None c h = absurd (cc h)
live_carries b (Some x) c h = ap Some (sym c)

abbrev slot_or : {T : Type 0} → Option T → List (ℕ × Option T) → Option T
slot_or other [] = other
slot_or other (c ∷ cs) = c.1

pub same_slot : {T : Type 0} (x y : Option T) (cs ds : List (ℕ × Option T)) → (0, x) ∷ cs ≡ (0, y) ∷ ds → x ≡ y
same_slot x y cs ds e = ap (slot_or x) e

module _ {T E B : Type 0} where
  -- the entries were counted, and then the value was put into the slot
  pub counted_and_put : (m a b : Standing T E B) (t : ℕ) (taken whole : List E) (x : T) → m.1 ≡ (0, None) ∷ [] → a ≡ (with_counted m.0 t taken whole, m.1) → b ≡ (a.0, (0, Some x) ∷ rest a.1) → b ≡ (with_counted m.0 t taken whole, (0, Some x) ∷ [])
  counted_and_put m a b t taken whole x held counted put =
      put ∙ ((λ k. ((counted k).0, (0, Some x) ∷ rest (counted k).1)) ∙ (λ k. (with_counted m.0 t taken whole, (0, Some x) ∷ rest (held k))))

  -- and then the turn was ended
  pub turn_ended : (m b d : Standing T E B) (t : ℕ) (taken whole : List E) (x : T) → b ≡ (with_counted m.0 t taken whole, (0, Some x) ∷ []) → d ≡ (with_stage b.0 Free, rest b.1) → d ≡ (with_stage (with_counted m.0 t taken whole) Free, [])
  turn_ended m b d t taken whole x full ended = ended ∙ (λ k. (with_stage (full k).0 Free, rest (full k).1))

  -- what a seat keeps stays, where only what it has seen and owns changed
  pub seated_again : (weight count : ℕ) (p q : Seat (Option T) (View E B)) (t : ℕ) (taken whole : List E) → IsSeated weight count p → q.me ≡ (with_stage (with_counted p.me.0 t taken whole) Free, []) → IsSeated weight count q
  seated_again weight count p q t taken whole was e = record {
    weight_is = subst (λ (m : Standing T E B). weight ≡ m.0.weight) (sym e) was.weight_is;
    heavy = subst (λ (m : Standing T E B). 0 < m.0.weight) (sym e) was.heavy;
    bounded = subst (λ (m : Standing T E B). m.0.weight ≤ whole_weight) (sym e) was.bounded;
    live = subst (λ (m : Standing T E B). IsSome m.0.base) (sym e) was.live;
    rests = subst (λ (m : Standing T E B). Rests count m.1 m.0.stage) (sym e) refl;
  }

  -- what callers see of the seat then
  pub gave_back : (p q : Seat (Option T) (View E B)) (t : ℕ) (taken whole : List E) → q.table_id ≡ p.table_id → p.me.0.stage ≡ Turn t taken → q.me ≡ (with_stage (with_counted p.me.0 t taken whole) Free, [])
      → seated q ≡ record { lock = p.table_id; seen = whole; own = p.me.0.own ++ added_places (taken_of p.me.0.stage) whole; weight = p.me.0.weight; base = p.me.0.base; taken = None }
  gave_back p q t taken whole same is e =
      let own : q.me.0.own ≡ p.me.0.own ++ added_places (taken_of p.me.0.stage) whole = ap (λ m. m.0.own) e ∙ sym (ap (λ (z : Stage E). p.me.0.own ++ added_places (taken_of z) whole) is) in
      λ k. record { lock = same k; seen = (e k).0.seen; own = own k; weight = (e k).0.weight; base = (e k).0.base; taken = taken_of (e k).0.stage }
