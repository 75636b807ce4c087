-- What a nonce is, as a list of bytes. (Own.)
use Rattle.std.specs.Prelude.{◌≡◌, ℕ, ◌<◌, ◌≤◌, true, List, length}
use Rattle.std.specs.List.{list_all}
use Rattle.std.specs.Char.{is_ascii_alphanumeric}

-- 1 to 32 ASCII letters and digits
pub record IsNonce (bytes : List ℕ) : Type 0 where
  pub not_empty : 0 < length bytes
  pub short : length bytes ≤ 32
  pub letters : list_all is_ascii_alphanumeric bytes ≡ true
