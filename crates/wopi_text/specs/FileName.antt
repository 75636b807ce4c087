-- What a file's name is, as a list of bytes, and the shard that keeps the file. (Own: a form that every usual file system takes.)
use Rattle.std.specs.Prelude.{ℕ, ◌≡◌, ◌≢◌, ◌-◌, ◌<◌, ◌≤◌, ◌%◌, Bool, true, List, length, slice_index, sum, codes, not, ◌==◌, ◌&&◌}
use Rattle.std.specs.List.{list_all, list_any}
use Rattle.std.specs.Char.{is_control}
use Rattle.std.specs.Str.{IsUtf8, chars}

-- the characters that file systems keep for themselves
abbrev pub forbidden : List ℕ
forbidden = codes "/\\:*?\"<>|"

-- a character that a name may have: no control character, and not one of those
abbrev pub is_name_char : ℕ → Bool
is_name_char character = not (is_control character) && not (list_any (λ other. other == character) forbidden)

-- the most bytes of a name
abbrev pub name_limit : ℕ
name_limit = 128

-- 1 to 128 bytes of UTF-8, of such characters, with no leading period and no closing period or space
pub record IsFileName (bytes : List ℕ) : Type 0 where
  pub not_empty : 0 < length bytes
  pub short : length bytes ≤ name_limit
  pub utf8 : IsUtf8 bytes
  pub allowed : list_all is_name_char (chars bytes) ≡ true
  pub no_leading_period : slice_index bytes 0 ≢ 46
  pub no_closing_period : slice_index bytes (length bytes - 1) ≢ 46
  pub no_closing_space : slice_index bytes (length bytes - 1) ≢ 32

-- the shard of a name: the sum of its bytes modulo 16
abbrev pub shard_of : List ℕ → ℕ
shard_of name = sum name % 16
