-- The order of lines, as it is kept. (Own.)
use Rattle.std.specs.Prelude.{◌≡◌, ◌↔◌, ℕ, ◌<◌, ◌≤◌, ◌==◌, List, Option, None, Some, IsTrue}
use Rattle.std.specs.List.{list_any}
use Rattle.journal_audit.specs.declared.order.Order.{Order}
use Rattle.journal_audit.specs.Lines.{Begun}

-- the stamp and the shard of the last line, or 0 where there is none
abbrev pub IsLastAt : Option (ℕ × ℕ) → ℕ → ℕ → Type 0
IsLastAt None stamp shard = stamp ≡ 0
IsLastAt (Some last) stamp shard = (last.0 ≡ stamp) × (last.1 ≡ shard)

abbrev pub has_pass : List ℕ → ℕ → Type 0
has_pass passes pass = IsTrue (list_any (λ one. one == pass) passes)

-- No pass has a line of a later stamp, and just these have one of the last: the stamps of the others are below it.
pub record KeepsOrder (order : Order) (begun : Begun) : Type 0 where
  pub last : IsLastAt begun.last order.stamp order.shard
  pub low : (pass : ℕ) → begun.passes pass ≤ order.stamp
  pub here : (pass : ℕ) → 0 < order.stamp → has_pass order.passes.items pass ↔ (begun.passes pass ≡ order.stamp)
