-- Chains of which the index has all ids, and goes on having them.
use Rattle.std.proofs.Common.{◌≡◌, inl, inr, ◌+◌, ◌≤◌, ℕ, true, false, Bool, List, [], ◌∷◌, length, Option, None, Some, if◌then◌else◌, sym, ap, refl, subst, ◌∙◌, arith}
use Rattle.std.specs.Prelude.{slice_get}
use Rattle.std.specs.HashMap.{HashMap, spare}
use Rattle.std.proofs.lemmas.Bool.{cases_eq}
use Rattle.wopi_model.specs.declared.locks.Spent.{Spent}
use Rattle.expiry_queue.specs.Queue.{Queue}
use Rattle.expiry_queue.specs.Waiting.{Waiting, is_due, left}
use Rattle.kept_locks.specs.declared.index.SpentOn.{SpentOn}
use Rattle.kept_locks.specs.declared.places.Held.{Held}
use Rattle.kept_locks.specs.declared.places.Place.{Place}
use Rattle.kept_locks.specs.Refusals.{Reindexes}
use Rattle.kept_locks.specs.Ties.{AreTold, IsReady, Puts, one_if}

told_put : (places places' : List Place) (number : ℕ) (place : Place) → AreTold places → Puts places places' number place → place.trail.told ≡ true → AreTold places'
told_put places places' number place all puts told = λ other one found. elim (cases_eq other number) [
  | inl same ↦
      let this : place ≡ one = cc (puts.here, found, same) in
      subst (λ (p : Place). p.trail.told ≡ true) this told
  | inr differs ↦ all other one (sym (puts.others other differs) ∙ found)
]

-- one file's trail became another one, and the index has room for the ids that may still come
pub ready_put : {S : Type 0} → (places places' : List Place) (queue queue' : Queue) (before after : HashMap SpentOn ℕ S) (number : ℕ) (was place : Place) (more : ℕ) → slice_get places number ≡ Some was
    → Puts places places' number place → Reindexes before after number was.trail place.trail more → length queue'.waiting + more ≤ spare before → IsReady places queue before → IsReady places' queue' after
ready_put places places' queue queue' before after number was place more at puts index room ready =
    let spared = index.spare in
    (told_put places places' number place ready.0 puts (index.told (ready.0 number was at) (omega (arith, room))), omega (arith, room, spared))

left_fewer : (waiting : List Waiting) (now : ℕ) → length (left waiting now) ≤ length waiting
left_fewer [] now = omega arith
left_fewer (one ∷ rest) now = by_test (is_due one now)
  where
    by_test : (due : Bool) → length (if due then rest else one ∷ rest) ≤ length (one ∷ rest)
    by_test true = omega arith
    by_test false = omega arith

-- where no lock was due
pub ready_left : {S : Type 0} → (places : List Place) (queue queue' : Queue) (index : HashMap SpentOn ℕ S) (now : ℕ) → queue'.waiting ≡ left queue.waiting now → IsReady places queue index → IsReady places queue' index
ready_left places queue queue' index now is ready =
    let fewer = left_fewer queue.waiting now in
    let same : length queue'.waiting ≡ length (left queue.waiting now) = ap (λ (l : List Waiting). length l) is in
    let room = ready.1 in
    (ready.0, omega (arith, fewer, same, room))

pub one_at_most : (spend : Option Spent) → one_if spend ≤ 1
one_at_most None = omega arith
one_at_most (Some one) = omega arith

-- a lock that begins, or an id that is spent where one was held
pub one_more : (held : Option Held) (spend : Option Spent) (before after : ℕ) → (held ≡ None → spend ≡ None) → ((one : Held) → held ≡ Some one → after ≤ before) → after ≤ before + 1 → after + one_if spend ≤ before + 1
one_more None spend before after none long longer = let same : one_if spend ≡ 0 = ap one_if (none refl) in omega (arith, same, longer)
one_more (Some one) spend before after none long longer = let fewer = long one refl in let most = one_at_most spend in omega (arith, fewer, most)
