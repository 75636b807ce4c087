-- What a user's name is, as a list of bytes. (Own.)
use Rattle.std.specs.Prelude.{◌≡◌, ℕ, ◌<◌, ◌≤◌, Bool, true, ◌||◌, ◌==◌, List, length}
use Rattle.std.specs.List.{list_all}
use Rattle.std.specs.Char.{is_ascii_alphanumeric}

-- an ASCII letter or digit, an underscore or a dash
abbrev pub is_user_byte : ℕ → Bool
is_user_byte byte = is_ascii_alphanumeric byte || (byte == 95 || byte == 45)

-- 1 to 64 such bytes
pub record IsUser (bytes : List ℕ) : Type 0 where
  pub not_empty : 0 < length bytes
  pub short : length bytes ≤ 64
  pub letters : list_all is_user_byte bytes ≡ true
