-- Whose an entry is, among passes that are all of a host.
use Rattle.std.proofs.Common.{◌≡◌, inl, inr, ℕ, zero, suc, ◌+◌, ◌≤◌, ◌==◌, ltb, true, false, Bool, cond, Option, None, Some, List, [], ◌∷◌, ◌++◌, map, slice_get, refl, ap, sym, subst, ◌∙◌, arith}
use Rattle.std.proofs.lemmas.Bool.Decides.{nat_tests}
use mathlib.Core.List.{IsPrefix}
use Rattle.turn_lock.specs.Places.{times}
use Rattle.turn_lock.proofs.Prefixes.{prefix_trans}
use Rattle.wopi_model.specs.Host.{Limits}
use Rattle.host_core.specs.Entries.{Made}
use Rattle.host_core.specs.Value.{Book}
use Rattle.host_table.specs.Passes.{Place, PassView, Own, owned_at, owned, owned_from, put_in, by_stamp, stamp_of, own_of, HasOwn, IsSeat, AreSeats, IsPass}
use Rattle.host_table.specs.Rows.{IsEnd, AreEnds}
use Rattle.host_table.specs.Close.{number_of, seat_in, column, places_in, IsJoinOf}
use Rattle.host_table.proofs.Stamps.{prefix_get, get_inside}
use Rattle.host_table.proofs.Owned.{has_own}
use Rattle.host_table.proofs.Order.{Has, has_left, has_right, has_either, all_at}

pub has_times : (xs : List ℕ) (n : ℕ) → Has xs n → 1 ≤ times n xs
has_times [] n h = absurd h
has_times (x ∷ xs) n h = elim h as (λ _. 1 ≤ times n (x ∷ xs)) [ inl e ↦ grind (arith, nat_tests) | inr k ↦ let r = has_times xs n k in omega arith ]

pub times_has : (xs : List ℕ) (n : ℕ) → 1 ≤ times n xs → Has xs n
times_has [] n h = absurd (omega arith)
times_has (x ∷ xs) n h = go (n == x) refl (times_has xs n) where
  more : n == x ≡ false → 1 ≤ times n xs
  more e = grind (arith, nat_tests)

  same : n == x ≡ true → x ≡ n
  same e = grind (arith, nat_tests)

  go : (b : Bool) → n == x ≡ b → (1 ≤ times n xs → Has xs n) → Has (x ∷ xs) n
  go true e rec = inl (same e)
  go false e rec = inr (rec (more e))

-- an entry of the pass's own, from where it stands
pub record IsOwned {F : Type 0} (j : ℕ) (seats : List (Place F)) (o : Own) : Type 0 where
  pub shard : ℕ
  pub seat : Place F
  pub place : ℕ
  pub one : Made
  pub there : slice_get seats shard ≡ Some seat
  pub own : Has seat.own place
  pub seen : slice_get seat.seen place ≡ Some one
  pub is : o ≡ record { shard = j + shard; place = place; entry = one.step; told = one.told }

owned_have : (j : ℕ) (seen : List Made) (places : List ℕ) (place : ℕ) (one : Made) → Has places place → slice_get seen place ≡ Some one → Has (owned j seen places) (record { shard = j; place = place; entry = one.step; told = one.told })
owned_have j seen [] place one h e = absurd h
owned_have j seen (p ∷ places) place one h e = elim h as (λ _. Has (owned_at j p (slice_get seen p) ++ owned j seen places) (record { shard = j; place = place; entry = one.step; told = one.told })) [
  | inl same ↦
      let here : slice_get seen p ≡ Some one = ap (slice_get seen) same ∙ e in
      let P : Option Made → Type 0 = λ o. Has (owned_at j p o ++ owned j seen places) (record { shard = j; place = place; entry = one.step; told = one.told }) in
      subst P (sym here) (inl (ap (λ (n : ℕ). record { shard = j; place = n; entry = one.step; told = one.told }) same))
  | inr k ↦ has_right (owned_at j p (slice_get seen p)) (owned j seen places) _ (owned_have j seen places place one k e)
]

in_owned : (j : ℕ) (seen : List Made) (places : List ℕ) (o : Own) → Has (owned j seen places) o → (place : ℕ) × (one : Made) × Has places place × (slice_get seen place ≡ Some one) × (o ≡ record { shard = j; place = place; entry = one.step; told = one.told })
in_owned j seen [] o h = absurd h
in_owned j seen (p ∷ places) o h = elim (has_either (owned_at j p (slice_get seen p)) (owned j seen places) o h) as (λ _. (place : ℕ) × (one : Made) × Has (p ∷ places) place × (slice_get seen place ≡ Some one) × (o ≡ record { shard = j; place = place; entry = one.step; told = one.told })) [
  | inl l ↦ go (slice_get seen p) refl l
  | inr r ↦ let k = in_owned j seen places o r in (k.0, k.1, inr k.2, k.3, k.4)
] where
  go : (m : Option Made) → slice_get seen p ≡ m → Has (owned_at j p m) o → (place : ℕ) × (one : Made) × Has (p ∷ places) place × (slice_get seen place ≡ Some one) × (o ≡ record { shard = j; place = place; entry = one.step; told = one.told })
  go None e k = absurd k
  go (Some one) e k = (p, one, inl refl, e, elim k as (λ _. o ≡ record { shard = j; place = p; entry = one.step; told = one.told }) [ inl same ↦ sym same | inr none ↦ absurd none ])

module _ {F : Type 0} where
  pub from_have : (j : ℕ) (seats : List (Place F)) (i : ℕ) (seat : Place F) (place : ℕ) (one : Made) → slice_get seats i ≡ Some seat → Has seat.own place → slice_get seat.seen place ≡ Some one
      → Has (owned_from j seats) (record { shard = j + i; place = place; entry = one.step; told = one.told })
  from_have j [] i seat place one at h e = absurd (cc at)
  from_have j (s ∷ seats) zero seat place one at h e =
      let same : seat ≡ s = cc at in let z : j ≡ j + 0 = omega arith in
      let P : Place F → Type 0 = λ t. Has (owned j t.seen t.own) (record { shard = j; place = place; entry = one.step; told = one.told }) in
      let Q : ℕ → Type 0 = λ n. Has (owned j s.seen s.own) (record { shard = n; place = place; entry = one.step; told = one.told }) in
      has_left (owned j s.seen s.own) (owned_from (j + 1) seats) _ (subst Q z (subst P same (owned_have j seat.seen seat.own place one h e)))
  from_have j (s ∷ seats) (suc i) seat place one at h e =
      let n : (j + 1) + i ≡ j + suc i = omega arith in
      let Q : ℕ → Type 0 = λ m. Has (owned_from (j + 1) seats) (record { shard = m; place = place; entry = one.step; told = one.told }) in
      has_right (owned j s.seen s.own) (owned_from (j + 1) seats) _ (subst Q n (from_have (j + 1) seats i seat place one at h e))

  pub in_from : (j : ℕ) (seats : List (Place F)) (o : Own) → Has (owned_from j seats) o → IsOwned j seats o
  in_from j [] o h = absurd h
  in_from j (s ∷ seats) o h = elim (has_either (owned j s.seen s.own) (owned_from (j + 1) seats) o h) as (λ _. IsOwned j (s ∷ seats) o) [
    | inl l ↦ let k = in_owned j s.seen s.own o l in let z : j ≡ j + 0 = omega arith in
        record { shard = 0; seat = s; place = k.0; one = k.1; there = refl; own = k.2; seen = k.3; is = k.4 ∙ ap (λ (n : ℕ). record { shard = n; place = k.0; entry = k.1.step; told = k.1.told }) z }
    | inr r ↦ let k = in_from (j + 1) seats o r in let n : (j + 1) + k.shard ≡ j + suc k.shard = omega arith in
        record { shard = suc k.shard; seat = k.seat; place = k.place; one = k.one; there = k.there; own = k.own; seen = k.seen; is = k.is ∙ ap (λ (m : ℕ). record { shard = m; place = k.place; entry = k.one.step; told = k.one.told }) n }
  ]

put_have : (x : Own) (ys : List Own) (o : Own) → Has (x ∷ ys) o → Has (put_in x ys) o
put_have x [] o h = h
put_have x (y ∷ ys) o h = go (ltb (stamp_of y) (stamp_of x)) (λ k. put_have x ys o k) h where
  go : (b : Bool) → (Has (x ∷ ys) o → Has (put_in x ys) o) → Has (x ∷ y ∷ ys) o → Has (cond b (y ∷ put_in x ys) (x ∷ y ∷ ys)) o
  go true rec h = elim h as (λ _. Has (y ∷ put_in x ys) o) [
    | inl e ↦ inr (rec (inl e))
    | inr k ↦ elim k as (λ _. Has (y ∷ put_in x ys) o) [ inl e ↦ inl e | inr l ↦ inr (rec (inr l)) ]
  ]
  go false rec h = h

in_put : (x : Own) (ys : List Own) (o : Own) → Has (put_in x ys) o → Has (x ∷ ys) o
in_put x [] o h = h
in_put x (y ∷ ys) o h = go (ltb (stamp_of y) (stamp_of x)) (λ k. in_put x ys o k) h where
  go : (b : Bool) → (Has (put_in x ys) o → Has (x ∷ ys) o) → Has (cond b (y ∷ put_in x ys) (x ∷ y ∷ ys)) o → Has (x ∷ y ∷ ys) o
  go true rec h = elim h as (λ _. Has (x ∷ y ∷ ys) o) [
    | inl e ↦ inr (inl e)
    | inr k ↦ elim (rec k) as (λ _. Has (x ∷ y ∷ ys) o) [ inl e ↦ inl e | inr l ↦ inr (inr l) ]
  ]
  go false rec h = h

pub sorted_have : (xs : List Own) (o : Own) → Has xs o → Has (by_stamp xs) o
sorted_have [] o h = h
sorted_have (x ∷ xs) o h = put_have x (by_stamp xs) o (elim h as (λ _. Has (x ∷ by_stamp xs) o) [ inl e ↦ inl e | inr k ↦ inr (sorted_have xs o k) ])

pub in_sorted : (xs : List Own) (o : Own) → Has (by_stamp xs) o → Has xs o
in_sorted [] o h = h
in_sorted (x ∷ xs) o h = elim (in_put x (by_stamp xs) o h) as (λ _. Has (x ∷ xs) o) [ inl e ↦ inl e | inr k ↦ inr (in_sorted xs o k) ]

module _ {F : Type 0} where
  pub in_places : (col : List (Place F)) (n : ℕ) → Has (places_in col) n → (s : Place F) × Has col s × Has s.own n
  in_places [] n h = absurd h
  in_places (s ∷ col) n h = elim (has_either s.own (places_in col) n h) as (λ _. (t : Place F) × Has (s ∷ col) t × Has t.own n) [
    | inl l ↦ (s, inl refl, l)
    | inr r ↦ let k = in_places col n r in (k.0, inr k.1, k.2)
  ]

  pub in_column : (i : ℕ) (ps : List (PassView F)) (s : Place F) → Has (column i ps) s → (q : PassView F) × Has ps q × (slice_get q.seats i ≡ Some s)
  in_column i [] s h = absurd h
  in_column i (p ∷ ps) s h = elim (has_either (seat_in (slice_get p.seats i)) (column i ps) s h) as (λ _. (q : PassView F) × Has (p ∷ ps) q × (slice_get q.seats i ≡ Some s)) [
    | inl l ↦ (p, inl refl, in_seat (slice_get p.seats i) l)
    | inr r ↦ let k = in_column i ps s r in (k.0, inr k.1, k.2)
  ] where
    in_seat : (o : Option (Place F)) → Has (seat_in o) s → o ≡ Some s
    in_seat None h = absurd h
    in_seat (Some t) h = elim h as (λ _. Some t ≡ Some s) [ inl e ↦ ap Some e | inr none ↦ absurd none ]

  pub column_has : (i : ℕ) (ps : List (PassView F)) (q : PassView F) (s : Place F) → Has ps q → slice_get q.seats i ≡ Some s → Has (column i ps) s
  column_has i [] q s h e = absurd h
  column_has i (p ∷ ps) q s h e = elim h as (λ _. Has (column i (p ∷ ps)) s) [
    | inl same ↦
        let here : slice_get p.seats i ≡ Some s = ap (λ (z : PassView F). slice_get z.seats i) same ∙ e in
        let P : Option (Place F) → Type 0 = λ o. Has (seat_in o ++ column i ps) s in subst P (sym here) (inl refl)
    | inr k ↦ has_right (seat_in (slice_get p.seats i)) (column i ps) s (column_has i ps q s k e)
  ]

  -- passes of one number are one
  pub same_number : (ps : List (PassView F)) (p q : PassView F) → ((n : ℕ) → times n (map number_of ps) ≤ 1) → Has ps p → Has ps q → p.number ≡ q.number → p ≡ q
  same_number [] p q once h k e = absurd h
  same_number (x ∷ ps) p q once h k e = elim h as (λ _. p ≡ q) [
    | inl a ↦ elim k as (λ _. p ≡ q) [
      | inl b ↦ sym a ∙ b
      | inr l ↦ let m = has_number ps q l in let o = once x.number in let na : x.number ≡ p.number = ap number_of a in absurd (twice x.number q.number (map number_of ps) (na ∙ e) m o)
    ]
    | inr i ↦ elim k as (λ _. p ≡ q) [
      | inl b ↦ let m = has_number ps p i in let o = once x.number in let nb : x.number ≡ q.number = ap number_of b in absurd (twice x.number p.number (map number_of ps) (nb ∙ sym e) m o)
      | inr l ↦ same_number ps p q (λ n. let o = once n in omega arith) i l e
    ]
  ] where
    has_number : (ps : List (PassView F)) (p : PassView F) → Has ps p → 1 ≤ times p.number (map number_of ps)
    has_number [] p h = absurd h
    has_number (y ∷ ps) p h = elim h as (λ _. 1 ≤ times p.number (map number_of (y ∷ ps))) [
      | inl a ↦ let na : y.number ≡ p.number = ap number_of a in grind (arith, nat_tests)
      | inr k ↦ let r = has_number ps p k in omega arith
    ]

    twice : (n m : ℕ) (xs : List ℕ) → n ≡ m → 1 ≤ times m xs → times n (n ∷ xs) ≤ 1 → ⊥
    twice n m xs e a b = let same : times n xs ≡ times m xs = ap (λ (k : ℕ). times k xs) e in grind (arith, nat_tests)

  pub seat_at : (number weight opened oldest : ℕ) (limits : Limits) (j : ℕ) (ss : List (Place F)) (i : ℕ) (s : Place F) → AreSeats number weight opened oldest limits j ss → slice_get ss i ≡ Some s → IsSeat number weight opened oldest limits (j + i) s
  seat_at number weight opened oldest limits j [] i s are e = absurd (cc e)
  seat_at number weight opened oldest limits j (x ∷ ss) zero s are e =
      let same : x ≡ s = cc e in let z : j ≡ j + 0 = omega arith in
      let P : ℕ × Place F → Type 0 = λ k. IsSeat number weight opened oldest limits k.0 k.1 in
      let both : (j, x) ≡ (j + 0, s) = λ i. (z i, same i) in subst P both are.0
  seat_at number weight opened oldest limits j (x ∷ ss) (suc i) s are e =
      let n : (j + 1) + i ≡ j + suc i = omega arith in
      let P : ℕ → Type 0 = λ k. IsSeat number weight opened oldest limits k s in subst P n (seat_at number weight opened oldest limits (j + 1) ss i s are.1 e)

  pub end_at : (seats : List (Place F)) (books : List (Book F)) (i : ℕ) (h : Book F) → AreEnds seats books → slice_get books i ≡ Some h → (s : Place F) × (slice_get seats i ≡ Some s) × IsEnd s h
  end_at [] [] i h a e = absurd (cc e)
  end_at [] (b ∷ books) i h a e = absurd a
  end_at (s ∷ seats) [] i h a e = absurd a
  end_at (s ∷ seats) (b ∷ books) zero h a e = let same : b ≡ h = cc e in (s, refl, subst (λ (z : Book F). IsEnd s z) same a.0)
  end_at (s ∷ seats) (b ∷ books) (suc i) h a e = end_at seats books i h a.1 e

  -- each entry of a shard at its end is one pass's own
  pub owner_of : (passes : List (PassView F)) (seats : List (Place F)) (books : List (Book F)) (i : ℕ) (h : Book F) (k : ℕ) (one : Made) → IsJoinOf passes seats → AreEnds seats books → slice_get books i ≡ Some h → slice_get h.made k ≡ Some one
      → (q : PassView F) × Has passes q × (one.step.pass ≡ q.number) × Has (own_of q) (record { shard = i; place = k; entry = one.step; told = one.told })
  owner_of passes seats books i h k one joined ends at e =
      let end = end_at seats books i h ends at in let final = end.0 in
      let inside = get_inside h.made k one e in
      let count = end.2.owned k in
      let some : 1 ≤ times k final.own = grind (arith, nat_tests) in
      let g = joined.gathered i final end.1 in
      let own = in_places (column i passes) k (subst (λ (z : List ℕ). Has z k) g.own (times_has final.own k some)) in let s = own.0 in
      let q = in_column i passes s own.1 in
      let is = all_at IsPass passes q.0 joined.passes_are q.1 in
      let seat = seat_at q.0.number q.0.weight q.0.opened q.0.first q.0.limits 0 q.0.seats i s is.seats q.2 in
      let mine = has_own q.0.number (slice_get s.seen k) (all_at (λ place. HasOwn q.0.number (slice_get s.seen place)) s.own k seat.owns own.2) in
      let begins : IsPrefix s.seen h.made = prefix_trans s.seen final.seen h.made (all_at (λ z. IsPrefix z.seen final.seen) (column i passes) s g.seen own.1) end.2.begins in
      let same : mine.0 ≡ one = cc (prefix_get s.seen h.made k mine.0 begins mine.1, e) in
      let there : slice_get s.seen k ≡ Some one = mine.1 ∙ ap Some same in
      let z : 0 + i ≡ i = omega arith in
      let P : ℕ → Type 0 = λ n. Has (own_of q.0) (record { shard = n; place = k; entry = one.step; told = one.told }) in
      (q.0, q.1, ap (λ (m : Made). m.step.pass) (sym same) ∙ mine.2, subst P z (sorted_have (owned_from 0 q.0.seats) _ (from_have 0 q.0.seats i s k one q.2 own.2 there)))

  -- what a pass has seen of a shard begins the shard's history at its end
  pub seen_begins : (passes : List (PassView F)) (seats : List (Place F)) (books : List (Book F)) (p : PassView F) (i : ℕ) (s : Place F) (h : Book F) → IsJoinOf passes seats → AreEnds seats books → Has passes p → slice_get p.seats i ≡ Some s → slice_get books i ≡ Some h
      → IsPrefix s.seen h.made
  seen_begins passes seats books p i s h joined ends mine e at =
      let end = end_at seats books i h ends at in
      let g = joined.gathered i end.0 end.1 in
      prefix_trans s.seen end.0.seen h.made (all_at (λ z. IsPrefix z.seen end.0.seen) (column i passes) s g.seen (column_has i passes p s mine e)) end.2.begins
