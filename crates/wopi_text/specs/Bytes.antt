-- Bytes, inline or on the heap. (Own.)
use Rattle.std.specs.Prelude.{ℕ, List, [], ◌∷◌}

-- the long ones where there are any, and else the short ones
unfoldable pub bytes_of : List ℕ → List ℕ → List ℕ
bytes_of [] short = short
bytes_of (byte ∷ long) short = byte ∷ long
