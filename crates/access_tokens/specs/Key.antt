-- What a key is, as a list of bytes, and how it is written. (Own.)
use Rattle.std.specs.Prelude.{ℕ, ◌≡◌, ◌<◌, ◌≤◌, List, length, Ok}
use Rattle.hex.specs.Hex.{decode_of}

-- 1 to 64 bytes
abbrev pub IsKey : List ℕ → Type 0
IsKey key = (0 < length key) × (length key ≤ 64)

-- the text is the hex of a key, with digits of either case
abbrev pub IsHexOf : List ℕ → List ℕ → Type 0
IsHexOf key text = IsKey key × (decode_of text ≡ Ok key)
