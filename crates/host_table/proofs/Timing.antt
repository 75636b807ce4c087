-- The names and the last stamp of a shard's entries.
use Rattle.std.proofs.Common.{◌≡◌, ℕ, zero, suc, ◌+◌, Option, Some, List, [], ◌∷◌, ◌++◌, length, slice_get, ap, arith}
use Rattle.wopi_model.specs.Shard.{stamps, last_from}
use Rattle.host_core.specs.Entries.{Made}
use Rattle.host_core.specs.Opening.{IsOfShard}
use Rattle.host_core.specs.Times.{steps_of}
use Rattle.host_table.specs.Histories.{last_stamp, AreNamed}

pub named-push : (only : Option ℕ) (made : List Made) (one : Made) → AreNamed only made → IsOfShard only one.step.call.name → AreNamed only (made ++ one ∷ [])
named-push only [] one n is = (is, tt)
named-push only (first ∷ made) one n is = (n.0, named-push only made one n.1 is)

last_from-at : (low k : ℕ) (made : List Made) (one : Made) → slice_get made k ≡ Some one → k + 1 ≡ length made → last_from low (stamps (steps_of made)) ≡ one.step.stamp
last_from-at low k [] one at e = absurd (omega arith)
last_from-at low zero (first ∷ []) one at e = let same : first ≡ one = cc at in ap (λ (m : Made). m.step.stamp) same
last_from-at low zero (first ∷ second ∷ made) one at e = absurd (omega arith)
last_from-at low (suc k) (first ∷ made) one at e = last_from-at first.step.stamp k made one at (omega arith)

-- the stamp of the last entry is the last stamp
pub last_stamp-at : (low k : ℕ) (made : List Made) (one : Made) → slice_get made k ≡ Some one → k + 1 ≡ length made → last_stamp low made ≡ one.step.stamp
last_stamp-at = last_from-at
