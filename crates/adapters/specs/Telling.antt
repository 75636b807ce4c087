-- Lines that tell an operator of a folder. (Own.)
use Rattle.std.specs.Prelude.{ℕ, List, ◌++◌, nat_lt, if◌then◌else◌, codes, decimal}

-- the limit that a file of so many bytes passes: that of one file, or that of all files of its shard
unfoldable pub limit_text : ℕ → List ℕ
limit_text len = if nat_lt 16777216 len then codes " bytes; a file has at most 16777216\n" else codes " bytes; with it the files of its shard have more than 268435456\n"

-- the path of a file with which a folder is too large, how many bytes it has, and the limit
abbrev pub size_text : List ℕ → ℕ → List ℕ
size_text path len = path ++ codes ": " ++ decimal len ++ limit_text len
