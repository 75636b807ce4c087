-- The chains of spent ids that a shard keeps.
use Rattle.std.specs.Prelude.{◌≡◌, ℕ, zero, suc, List, [], ◌∷◌, Some}
use Rattle.wopi_model.specs.declared.locks.Spent.{Spent}
use Rattle.wopi_model.specs.Settle.{still_spent}
use Rattle.host_core.specs.declared.ledger.Ledger.{Ledger}
use Rattle.host_core.specs.Names.{place_in}
use Rattle.host_core.specs.Numbers.{named}
use Rattle.host_core.specs.Value.{Book, state_of}

-- the chain under a number; a number of no file has no ids
abbrev pub chain_at : List (List Spent) → ℕ → List Spent
chain_at [] number = []
chain_at (chain ∷ chains) zero = chain
chain_at (chain ∷ chains) (suc number) = chain_at chains number

-- each file's chain, without the ids that are over at the shard's time, is the file's spent list
abbrev pub KeepsChains : {F : Type 0} → Ledger → Book F → Type 0
KeepsChains ledger book =
    (name : List ℕ) (number : ℕ) → place_in (named ledger.rack.files.items) name ≡ Some number
    → still_spent (chain_at ledger.rack.locks.chains number) book.time ≡ ((state_of book.begin book.made book.time).files name).spent
