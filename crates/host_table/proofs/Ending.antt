-- Locks that are ended in a row.
use Rattle.std.proofs.Common.{◌≡◌, List, [], ◌∷◌, ◌++◌, length, refl, ap, sym, ◌∙◌, append_assoc, arith}
use Rattle.host_core.specs.Value.{Book}
use Rattle.host_table.specs.Passes.{Place}
use Rattle.host_table.specs.Rows.{IsEnd, AreEnds}

module _ {F : Type 0} where
  pub ends_push : (done : List (Place F)) (ended : List (Book F)) (seat : Place F) (book : Book F) → AreEnds done ended → IsEnd seat book → AreEnds (done ++ seat ∷ []) (ended ++ book ∷ [])
  ends_push [] [] seat book a e = (e, tt)
  ends_push [] (b ∷ ended) seat book a e = absurd a
  ends_push (s ∷ done) [] seat book a e = absurd a
  ends_push (s ∷ done) (b ∷ ended) seat book a e = (a.0, ends_push done ended seat book a.1 e)

-- one more is done, and the rest has one less
pub more_done : {A : Type 0} (all done rest rest' : List A) (x : A) → all ≡ done ++ rest → rest ≡ x ∷ rest' → all ≡ (done ++ x ∷ []) ++ rest'
more_done all done rest rest' x is first = is ∙ (ap (λ (z : List _). done ++ z) first ∙ sym (append_assoc done (x ∷ []) rest'))

-- one more was put behind
pub more_put : {A : Type 0} (new old put start : List A) (x : A) → new ≡ old ++ x ∷ [] → old ≡ start ++ put → new ≡ start ++ (put ++ x ∷ [])
more_put new old put start x is was = is ∙ (ap (λ (z : List _). z ++ x ∷ []) was ∙ append_assoc start put (x ∷ []))

-- what is behind stays, as the first of it is put behind what is there
pub moved_one : {A : Type 0} (into into' rest rest' start : List A) (x : A) → into ++ rest ≡ start → rest ≡ x ∷ rest' → into' ≡ into ++ x ∷ [] → into' ++ rest' ≡ start
moved_one into into' rest rest' start x is first put =
    ap (λ (z : List _). z ++ rest') put ∙ (append_assoc into (x ∷ []) rest' ∙ (ap (λ (z : List _). into ++ z) (sym first) ∙ is))

-- a list of no length has nothing
pub nothing_left : {A : Type 0} (xs : List A) → length xs ≡ 0 → xs ≡ []
nothing_left [] e = refl
nothing_left (x ∷ xs) e = absurd (omega arith)
