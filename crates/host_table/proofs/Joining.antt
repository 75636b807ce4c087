-- Seats that are joined in rows.
use Rattle.std.proofs.Common.{◌≡◌, ℕ, zero, suc, ◌+◌, ◌<◌, Option, None, Some, List, [], ◌∷◌, ◌++◌, map, length, set, get_or, slice_get, refl, ap, sym, subst, ◌∙◌, arith, append_assoc, length-append}
use Rattle.std.proofs.lemmas.List.{append-nil}
use Rattle.std.specs.List.{AllByRecursion}
use mathlib.Core.List.{IsPrefix}
use Rattle.turn_lock.specs.Places.{total}
use Rattle.turn_lock.proofs.Prefixes.{prefix_self, prefix_trans}
use Rattle.turn_lock.proofs.Sums.{total-append}
use Rattle.wopi_model.specs.Host.{Limits}
use Rattle.host_table.specs.Passes.{Place, PassView, lock_of, base_of, AreSeats, IsPass}
use Rattle.host_table.specs.Close.{weight_of, IsJoined, AreJoined, AreFree, seat_in, column, places_in, IsGathered, IsBasedOn, IsJoinOf}

module _ {A : Type 0} where
  -- what is left is not empty
  pub first_left : (done left : List A) (i : ℕ) → length done ≡ i → i < length (done ++ left) → (x : A) × (rest : List A) × (left ≡ x ∷ rest)
  first_left done [] i e h = absurd (omega (arith, length-append done []))
  first_left done (x ∷ rest) i e h = (x, rest, refl)

  pub get_middle : (done rest : List A) (x d : A) → get_or (done ++ x ∷ rest) (length done) d ≡ x
  get_middle [] rest x d = refl
  get_middle (y ∷ done) rest x d = get_middle done rest x d

  pub set_middle : (done rest : List A) (x y : A) → set (done ++ x ∷ rest) (length done) y ≡ (done ++ y ∷ []) ++ rest
  set_middle [] rest x y = refl
  set_middle (z ∷ done) rest x y = ap (λ (l : List A). z ∷ l) (set_middle done rest x y)

module _ {F : Type 0} where
  pub joined_push : (done odone joined : List (Place F)) (s o n : Place F) → AreJoined done odone joined → IsJoined s o n → AreJoined (done ++ s ∷ []) (odone ++ o ∷ []) (joined ++ n ∷ [])
  joined_push [] [] [] s o n a j = (j, tt)
  joined_push [] [] (c ∷ joined) s o n a j = absurd a
  joined_push [] (b ∷ odone) [] s o n a j = absurd a
  joined_push [] (b ∷ odone) (c ∷ joined) s o n a j = absurd a
  joined_push (x ∷ done) [] [] s o n a j = absurd a
  joined_push (x ∷ done) [] (c ∷ joined) s o n a j = absurd a
  joined_push (x ∷ done) (b ∷ odone) [] s o n a j = absurd a
  joined_push (x ∷ done) (b ∷ odone) (c ∷ joined) s o n a j = (a.0, joined_push done odone joined s o n a.1 j)

  pub joined_locks : (seats others joined : List (Place F)) → AreJoined seats others joined → map lock_of joined ≡ map lock_of seats
  joined_locks [] [] [] a = refl
  joined_locks [] [] (c ∷ joined) a = absurd a
  joined_locks [] (b ∷ others) [] a = absurd a
  joined_locks [] (b ∷ others) (c ∷ joined) a = absurd a
  joined_locks (x ∷ seats) [] [] a = absurd a
  joined_locks (x ∷ seats) [] (c ∷ joined) a = absurd a
  joined_locks (x ∷ seats) (b ∷ others) [] a = absurd a
  joined_locks (x ∷ seats) (b ∷ others) (c ∷ joined) a = let first = ap lock_of a.0.is in let rest = joined_locks seats others joined a.1 in λ i. first i ∷ rest i

  pub joined_bases : (seats others joined : List (Place F)) → AreJoined seats others joined → map base_of joined ≡ map base_of seats
  joined_bases [] [] [] a = refl
  joined_bases [] [] (c ∷ joined) a = absurd a
  joined_bases [] (b ∷ others) [] a = absurd a
  joined_bases [] (b ∷ others) (c ∷ joined) a = absurd a
  joined_bases (x ∷ seats) [] [] a = absurd a
  joined_bases (x ∷ seats) [] (c ∷ joined) a = absurd a
  joined_bases (x ∷ seats) (b ∷ others) [] a = absurd a
  joined_bases (x ∷ seats) (b ∷ others) (c ∷ joined) a = let first = ap base_of a.0.is in let rest = joined_bases seats others joined a.1 in λ i. first i ∷ rest i

  joined_free : (seats others joined : List (Place F)) → AreFree seats → AreJoined seats others joined → AreFree joined
  joined_free [] [] [] f a = tt
  joined_free [] [] (c ∷ joined) f a = absurd a
  joined_free [] (b ∷ others) [] f a = absurd a
  joined_free [] (b ∷ others) (c ∷ joined) f a = absurd a
  joined_free (x ∷ seats) [] [] f a = absurd a
  joined_free (x ∷ seats) [] (c ∷ joined) f a = absurd a
  joined_free (x ∷ seats) (b ∷ others) [] f a = absurd a
  joined_free (x ∷ seats) (b ∷ others) (c ∷ joined) f a = (ap (λ (p : Place F). p.taken) a.0.is ∙ f.0, joined_free seats others joined f.1 a.1)

  abbrev Weigh : ℕ → List (Place F) → Type 0
  Weigh w seats = AllByRecursion (λ seat. seat.weight ≡ w) seats

  joined_weights : (seats others joined : List (Place F)) (w v : ℕ) → Weigh w seats → Weigh v others → AreJoined seats others joined → Weigh (w + v) joined
  joined_weights [] [] [] w v f h a = tt
  joined_weights [] [] (c ∷ joined) w v f h a = absurd a
  joined_weights [] (b ∷ others) [] w v f h a = absurd a
  joined_weights [] (b ∷ others) (c ∷ joined) w v f h a = absurd a
  joined_weights (x ∷ seats) [] [] w v f h a = absurd a
  joined_weights (x ∷ seats) [] (c ∷ joined) w v f h a = absurd a
  joined_weights (x ∷ seats) (b ∷ others) [] w v f h a = absurd a
  joined_weights (x ∷ seats) (b ∷ others) (c ∷ joined) w v f h a = (ap (λ (p : Place F). p.weight) a.0.is ∙ (λ i. f.0 i + h.0 i), joined_weights seats others joined w v f.1 h.1 a.1)

  pub joined_at : (seats others joined : List (Place F)) (k : ℕ) (n : Place F) → AreJoined seats others joined → slice_get joined k ≡ Some n
      → (s : Place F) × (o : Place F) × (slice_get seats k ≡ Some s) × (slice_get others k ≡ Some o) × IsJoined s o n
  joined_at [] [] [] k n a e = absurd (cc e)
  joined_at [] [] (c ∷ joined) k n a e = absurd a
  joined_at [] (b ∷ others) [] k n a e = absurd a
  joined_at [] (b ∷ others) (c ∷ joined) k n a e = absurd a
  joined_at (x ∷ seats) [] [] k n a e = absurd a
  joined_at (x ∷ seats) [] (c ∷ joined) k n a e = absurd a
  joined_at (x ∷ seats) (b ∷ others) [] k n a e = absurd a
  joined_at (x ∷ seats) (b ∷ others) (c ∷ joined) zero n a e = let same : c ≡ n = cc e in (x, b, refl, refl, subst (λ (z : Place F). IsJoined x b z) same a.0)
  joined_at (x ∷ seats) (b ∷ others) (c ∷ joined) (suc k) n a e = joined_at seats others joined k n a.1 e

  column-append : (k : ℕ) (ps : List (PassView F)) (p : PassView F) → column k (ps ++ p ∷ []) ≡ column k ps ++ seat_in (slice_get p.seats k)
  column-append k [] p = append-nil (seat_in (slice_get p.seats k))
  column-append k (q ∷ ps) p = ap (λ (z : List (Place F)). seat_in (slice_get q.seats k) ++ z) (column-append k ps p) ∙ sym (append_assoc (seat_in (slice_get q.seats k)) (column k ps) (seat_in (slice_get p.seats k)))

  places-append : (xs ys : List (Place F)) → places_in (xs ++ ys) ≡ places_in xs ++ places_in ys
  places-append [] ys = refl
  places-append (x ∷ xs) ys = ap (λ (z : List ℕ). x.own ++ z) (places-append xs ys) ∙ sym (append_assoc x.own (places_in xs) (places_in ys))

  seen_more : (xs : List (Place F)) (s n : Place F) → AllByRecursion (λ one. IsPrefix one.seen s.seen) xs → IsPrefix s.seen n.seen → AllByRecursion (λ one. IsPrefix one.seen n.seen) xs
  seen_more [] s n a p = tt
  seen_more (x ∷ xs) s n a p = (prefix_trans x.seen s.seen n.seen a.0 p, seen_more xs s n a.1 p)

  seen_push : (xs : List (Place F)) (o n : Place F) → AllByRecursion (λ one. IsPrefix one.seen n.seen) xs → IsPrefix o.seen n.seen → AllByRecursion (λ one. IsPrefix one.seen n.seen) (xs ++ o ∷ [])
  seen_push [] o n a p = (p, tt)
  seen_push (x ∷ xs) o n a p = (a.0, seen_push xs o n a.1 p)

  gathered_more : (col : List (Place F)) (s o n : Place F) → IsGathered col s → IsJoined s o n → IsGathered (col ++ o ∷ []) n
  gathered_more col s o n g j = record {
    seen = seen_push col o n (seen_more col s n g.seen j.begins) j.other_begins;
    own = ap (λ (p : Place F). p.own) j.is ∙ ((λ i. g.own i ++ sym (append-nil o.own) i) ∙ sym (places-append col (o ∷ [])));
  }

  seats_free : (number weight opened oldest : ℕ) (limits : Limits) (j : ℕ) (ss : List (Place F)) → AreSeats number weight opened oldest limits j ss → AreFree ss
  seats_free number weight opened oldest limits j [] are = tt
  seats_free number weight opened oldest limits j (s ∷ ss) are = (are.0.free, seats_free number weight opened oldest limits (j + 1) ss are.1)

  seats_weigh : (number weight opened oldest : ℕ) (limits : Limits) (j : ℕ) (ss : List (Place F)) → AreSeats number weight opened oldest limits j ss → Weigh weight ss
  seats_weigh number weight opened oldest limits j [] are = tt
  seats_weigh number weight opened oldest limits j (s ∷ ss) are = (are.0.weight_is, seats_weigh number weight opened oldest limits (j + 1) ss are.1)

  pub pass_free : (p : PassView F) → IsPass p → AreFree p.seats
  pass_free p is = seats_free p.number p.weight p.opened p.first p.limits 0 p.seats is.seats

  pub join_first : (p : PassView F) → IsPass p → IsJoinOf (p ∷ []) p.seats
  join_first p is = record {
    passes_are = (is, tt);
    free = pass_free p is;
    based = refl;
    weights = let one : p.weight ≡ p.weight + 0 = omega arith in subst (λ (w : ℕ). Weigh w p.seats) one (seats_weigh p.number p.weight p.opened p.first p.limits 0 p.seats is.seats);
    gathered = λ k s e. let P : Option (Place F) → Type 0 = λ o. IsGathered (seat_in o ++ []) s in
        subst P (sym e) (record { seen = (prefix_self s.seen, tt); own = sym (append-nil s.own) });
  }

  are_append : (ps : List (PassView F)) (p : PassView F) → AllByRecursion IsPass ps → IsPass p → AllByRecursion IsPass (ps ++ p ∷ [])
  are_append [] p a is = (is, tt)
  are_append (q ∷ ps) p a is = (a.0, are_append ps p a.1 is)

  based_more : (ps : List (PassView F)) (p : PassView F) (seats joined : List (Place F)) → map base_of joined ≡ map base_of seats → IsBasedOn ps seats → IsBasedOn (ps ++ p ∷ []) joined
  based_more [] p seats joined same b = absurd b
  based_more (q ∷ ps) p seats joined same b = same ∙ b

  pub join_more : (ps : List (PassView F)) (p : PassView F) (seats joined : List (Place F)) → IsJoinOf ps seats → IsPass p → AreJoined seats p.seats joined → IsJoinOf (ps ++ p ∷ []) joined
  join_more ps p seats joined old is are = record {
    passes_are = are_append ps p old.passes_are is;
    free = joined_free seats p.seats joined old.free are;
    based = based_more ps p seats joined (joined_bases seats p.seats joined are) old.based;
    weights = let sum : total weight_of ps + p.weight ≡ total weight_of (ps ++ p ∷ []) = omega (arith, total-append weight_of ps (p ∷ [])) in
        subst (λ (w : ℕ). Weigh w joined) sum (joined_weights seats p.seats joined (total weight_of ps) p.weight old.weights (seats_weigh p.number p.weight p.opened p.first p.limits 0 p.seats is.seats) are);
    gathered = λ k n e.
        let at = joined_at seats p.seats joined k n are e in
        let col : column k ps ++ at.1 ∷ [] ≡ column k (ps ++ p ∷ []) = sym (column-append k ps p ∙ ap (λ (o : Option (Place F)). column k ps ++ seat_in o) at.3) in
        subst (λ (c : List (Place F)). IsGathered c n) col (gathered_more (column k ps) at.0 at.1 n (old.gathered k at.0 at.2) at.4);
  }

  pub free_at : (xs ys : List (Place F)) (x : Place F) → AreFree (xs ++ x ∷ ys) → x.taken ≡ None
  free_at [] ys x f = f.0
  free_at (z ∷ xs) ys x f = free_at xs ys x f.1

  -- the seat at the first place that isn't done
  pub seat_here : (seats joined left left' : List (Place F)) (i : ℕ) (v s : Place F) → v ≡ get_or seats i v → seats ≡ joined ++ left → left ≡ s ∷ left' → length joined ≡ i → v ≡ s
  seat_here seats joined left left' i v s at is first long =
      at ∙ (ap (λ (z : List (Place F)). get_or z i v) (is ∙ ap (λ (z : List (Place F)). joined ++ z) first) ∙ (ap (λ (n : ℕ). get_or (joined ++ s ∷ left') n v) (sym long) ∙ get_middle joined left' s v))

  pub set_here : (seats joined left left' : List (Place F)) (i : ℕ) (s n : Place F) → seats ≡ joined ++ left → left ≡ s ∷ left' → length joined ≡ i → set seats i n ≡ (joined ++ n ∷ []) ++ left'
  set_here seats joined left left' i s n is first long =
      ap (λ (z : List (Place F)). set z i n) (is ∙ ap (λ (z : List (Place F)). joined ++ z) first) ∙ (ap (λ (m : ℕ). set (joined ++ s ∷ left') m n) (sym long) ∙ set_middle joined left' s n)
