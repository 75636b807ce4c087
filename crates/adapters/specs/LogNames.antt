-- The names of a host's logs. (Own.)
use Rattle.std.specs.Prelude.{◌≡◌, ◌<◌, ◌≤◌, ◌⊎◌, ◌+◌, ◌-◌, ◌^◌, ◌==◌, ℕ, ⊤, Bool, nat_lt, if◌then◌else◌, Option, None, Some, List, [], ◌∷◌, ◌++◌, length, codes, decimal}
use Rattle.std.specs.List.{position_or_len, before_first, after_first}
use Rattle.wopi_text.specs.Decimals.{decimal_of}

-- SHARD.N
abbrev pub log_name : ℕ → ℕ → List ℕ
log_name shard number = decimal shard ++ (codes "." ++ decimal number)

-- it is the name of a log of that number
abbrev pub IsLogOf : List ℕ → ℕ → Type 0
IsLogOf name number = (shard : ℕ) × (shard < 16) × (number < 2 ^ 64) × (name ≡ log_name shard number)

abbrev pub is_dot : ℕ → Bool
is_dot byte = byte == 46

abbrev pub of_shard : Option ℕ → Option ℕ → Option ℕ
of_shard None number = None
of_shard (Some shard) number = if nat_lt shard 16 then number else None

-- the number behind a name's first dot, where a shard stands in front of it
abbrev pub number_in : List ℕ → Option ℕ
number_in name =
    if nat_lt (position_or_len is_dot name) (length name)
    then of_shard (decimal_of (before_first is_dot name)) (decimal_of (after_first is_dot name)) else None

-- one of the names is
abbrev pub HasLogOf : List (List ℕ) → ℕ → Type 0
HasLogOf [] number = ⊥
HasLogOf (name ∷ names) number = IsLogOf name number ⊎ HasLogOf names number

-- one more than the greatest number of a log among the names, and 1 where there is none
pub record IsNext (names : List (List ℕ)) (next : ℕ) : Type 0 where
  pub first : 1 ≤ next
  pub greater : (number : ℕ) → HasLogOf names number → number < next
  pub least : 1 < next → HasLogOf names (next - 1)

-- the path of a shard's log
abbrev pub log_path : List ℕ → ℕ → ℕ → List ℕ
log_path folder shard number = folder ++ codes "/" ++ decimal shard ++ codes "." ++ decimal number

-- those of the logs of that number, from a shard on
abbrev pub ArePaths : List ℕ → ℕ → ℕ → List (List ℕ) → Type 0
ArePaths folder number shard [] = ⊤
ArePaths folder number shard (path ∷ paths) = (path ≡ log_path folder shard number) × ArePaths folder number (shard + 1) paths
