-- What contracts see of what a worker works with. (Own.)
use Rattle.std.specs.Prelude.{ℕ, Bool, List, Option}

-- The meanings of a listener N, its links L and a clock K: what each tells of itself, and the counts of its faults. `loses` says that there are stores of the
-- host's that may be lost.
pub record WorkMeanings (N L K : Type 0) : Type 0 where
  pub links_left : N → Option (List L)
  pub finished_links : N → Option (List L)
  pub accepted : N → ℕ
  pub finished : N → ℕ
  pub faults : N → ℕ
  pub left : L → Option (List ℕ)
  pub held : L → Option (List ℕ)
  pub read_faults : L → ℕ
  pub write_faults : L → ℕ
  pub moments : K → Option (List ℕ)
  pub loses : Bool
