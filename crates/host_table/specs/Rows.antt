-- Seats in a row, one at each lock. (Own.)
use Rattle.std.specs.Prelude.{◌≡◌, ⊤, ◌≤◌, ◌^◌, List, [], ◌∷◌, length, None, Some}
use mathlib.Core.List.{IsPrefix}
use Rattle.turn_lock.specs.Places.{AreAllBelow}
use Rattle.host_core.specs.Value.{Book}
use Rattle.host_table.specs.Histories.{as_opened}
use Rattle.host_table.specs.Passes.{Place}

module _ {F : Type 0} where
  -- each seat may be split
  abbrev pub CanSplit : List (Place F) → Type 0
  CanSplit [] = ⊤
  CanSplit (seat ∷ seats) = ((seat.taken ≡ None) × (2 ≤ seat.weight)) × CanSplit seats

  -- each seat may close its lock
  abbrev pub CanClose : List (Place F) → Type 0
  CanClose [] = ⊤
  CanClose (seat ∷ seats) = ((seat.taken ≡ None) × (seat.weight ≡ 2 ^ 62)) × CanClose seats

  -- what lay under a lock at its end: all that was seen begins it, and each of its places is the seat's own
  pub record IsEnd (seat : Place F) (book : Book F) : Type 0 where
    pub begins : IsPrefix seat.seen book.made
    pub based : seat.base ≡ Some (as_opened book)
    pub owned : AreAllBelow (length book.made) seat.own

  abbrev pub AreEnds : List (Place F) → List (Book F) → Type 0
  AreEnds [] [] = ⊤
  AreEnds [] (book ∷ books) = ⊥
  AreEnds (seat ∷ seats) [] = ⊥
  AreEnds (seat ∷ seats) (book ∷ books) = IsEnd seat book × AreEnds seats books
