-- Shards that are locked, and locks that are taken away again.
use Rattle.std.proofs.Common.{◌≡◌, ℕ, suc, Option, Some, List, [], ◌∷◌, ◌++◌, map, length, refl, ap, sym, subst, ◌∙◌, append_assoc, arith}
use Rattle.std.proofs.lemmas.Bool.Decides.{nat_tests}
use Rattle.std.proofs.lemmas.List.{map-append}
use Rattle.atomic_table.specs.Seated.{TableId}
use Rattle.turn_lock.specs.Places.{AreAllBelow}
use Rattle.turn_lock.specs.Seats.{first_seat}
use Rattle.host_core.specs.Entries.{Made}
use Rattle.host_core.specs.Value.{Book}
use Rattle.host_table.specs.Histories.{as_opened}
use Rattle.host_table.specs.Passes.{Place, lock_of, base_of}
use Rattle.host_table.specs.Rows.{CanClose, AreEnds}
use Rattle.host_table.specs.Start.{first_seats, AreNew}

no_places : (n : ℕ) → AreAllBelow n [] → n ≡ 0
no_places n a = let first = a 0 in grind (arith, nat_tests)

none_made : (made : List Made) → length made ≡ 0 → made ≡ []
none_made [] e = refl
none_made (one ∷ made) e = absurd (omega arith)

module _ {F : Type 0} where
  pub first_locks : (locks : List TableId) (bases : List (Book F)) → length bases ≡ length locks → map lock_of (first_seats locks bases) ≡ locks
  first_locks [] bases e = refl
  first_locks (lock ∷ locks) [] e = absurd (omega arith)
  first_locks (lock ∷ locks) (base ∷ bases) e = ap (λ (z : List TableId). lock ∷ z) (first_locks locks bases (omega arith))

  pub first_bases : (locks : List TableId) (bases : List (Book F)) → length bases ≡ length locks → map base_of (first_seats locks bases) ≡ map Some bases
  first_bases [] [] e = refl
  first_bases [] (base ∷ bases) e = absurd (omega arith)
  first_bases (lock ∷ locks) [] e = absurd (omega arith)
  first_bases (lock ∷ locks) (base ∷ bases) e = ap (λ (z : List (Option (Book F))). Some base ∷ z) (first_bases locks bases (omega arith))

  pub first_close : (locks : List TableId) (bases : List (Book F)) → CanClose (first_seats locks bases)
  first_close [] bases = tt
  first_close (lock ∷ locks) [] = tt
  first_close (lock ∷ locks) (base ∷ bases) = ((refl, refl), first_close locks bases)

  pub first_push : (locks : List TableId) (bases : List (Book F)) (lock : TableId) (base : Book F) → length bases ≡ length locks → first_seats (locks ++ lock ∷ []) (bases ++ base ∷ []) ≡ first_seats locks bases ++ first_seat lock base ∷ []
  first_push [] [] lock base e = refl
  first_push [] (b ∷ bases) lock base e = absurd (omega arith)
  first_push (l ∷ locks) [] lock base e = absurd (omega arith)
  first_push (l ∷ locks) (b ∷ bases) lock base e = ap (λ (z : List (Place F)). first_seat l b ∷ z) (first_push locks bases lock base (omega arith))

  -- locks that were only made give back shards that were opened like that
  pub first_ends : (locks : List TableId) (bases ended : List (Book F)) → length bases ≡ length locks → AreEnds (first_seats locks bases) ended → (map as_opened ended ≡ bases) × AreNew ended
  first_ends [] [] [] e a = (refl, tt)
  first_ends [] [] (b ∷ ended) e a = absurd a
  first_ends [] (b ∷ bases) ended e a = absurd (omega arith)
  first_ends (l ∷ locks) [] ended e a = absurd (omega arith)
  first_ends (l ∷ locks) (b ∷ bases) [] e a = absurd a
  first_ends (l ∷ locks) (b ∷ bases) (h ∷ ended) e a =
      let rest = first_ends locks bases ended (omega arith) a.1 in
      let same : as_opened h ≡ b = cc (a.0.based) in
      ((λ i. same i ∷ rest.0 i), (none_made h.made (no_places (length h.made) a.0.owned), rest.1))

  pub new_append : (xs ys : List (Book F)) → AreNew xs → AreNew ys → AreNew (xs ++ ys)
  new_append [] ys a b = b
  new_append (x ∷ xs) ys a b = (a.0, new_append xs ys a.1 b)

  -- all shards come back, those under locks first
  pub all_back : (all done rest rest' back1 back2 back3 ended back0 : List (Book F)) (held : Book F) (locks : List TableId) → all ≡ done ++ rest → rest ≡ held ∷ rest' → length done ≡ length locks
      → back0 ≡ [] → back1 ≡ back0 ++ ended → AreEnds (first_seats locks (map as_opened done)) ended → back2 ≡ back1 ++ held ∷ [] → back3 ≡ back2 ++ rest' → AreNew rest
      → (map as_opened back3 ≡ map as_opened all) × AreNew back3
  all_back all done rest rest' back1 back2 back3 ended back0 held locks is first long empty gave ends pushed moved new =
      let old = first_ends locks (map as_opened done) ended (map-long done ∙ long) ends in
      let back : back3 ≡ ended ++ held ∷ rest' = moved ∙ (ap (λ (z : List (Book F)). z ++ rest') (pushed ∙ ap (λ (z : List (Book F)). z ++ held ∷ []) (gave ∙ ap (λ (z : List (Book F)). z ++ ended) empty)) ∙ append_assoc ended (held ∷ []) rest') in
      let whole : all ≡ done ++ held ∷ rest' = is ∙ ap (λ (z : List (Book F)). done ++ z) first in
      let same : map as_opened (ended ++ held ∷ rest') ≡ map as_opened (done ++ held ∷ rest') =
      map-append as_opened ended (held ∷ rest') ∙ (ap (λ (z : List (Book F)). z ++ map as_opened (held ∷ rest')) old.0 ∙ sym (map-append as_opened done (held ∷ rest'))) in
      (ap (map as_opened) back ∙ (same ∙ sym (ap (map as_opened) whole)), subst AreNew (sym back) (new_append ended (held ∷ rest') old.1 (subst AreNew first new))) where
        map-long : (xs : List (Book F)) → length (map as_opened xs) ≡ length xs
        map-long [] = refl
        map-long (x ∷ xs) = ap suc (map-long xs)
