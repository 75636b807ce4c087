-- What UTF-7 text is made of. (RFC 2152. Own: a backslash and a tilde stand for themselves, and a tab, a carriage return and a line feed don't; the bits that fill up a shift are fewer than six; a shift has at least one unit.)
use Rattle.std.specs.Prelude.{ℕ, ◌<◌, ◌^◌, ◌≡◌, ◌≢◌, Bool, true, false, not, ◌&&◌, ◌||◌, ◌==◌, nat_le, if◌then◌else◌, List, [], ◌∷◌, ◌++◌, flat_map, length, codes, ⊤}
use Rattle.std.specs.Char.{is_ascii_alphanumeric}
use Rattle.std.specs.List.{AllByRecursion}
use Rattle.std.specs.Char.Utf16.{has_unpaired_surrogate, utf16_lossy_chars}
use Rattle.std.specs.Int.{w16, to_be_bytes}
use Rattle.base64.specs.Engines.{standard_no_pad}
use Rattle.base64.specs.GeneralPurpose.{encode_of}

-- a byte that stands for itself, the two bytes `+-`, or a shift: these UTF-16 units, with a `-` after them or without one
pub data Piece : Type 0 where
  Direct : (byte : ℕ) → Piece
  Plus : Piece
  Shift : (units : List ℕ) → (closed : Bool) → Piece

-- a byte of printable ASCII but `+`
abbrev pub is_direct : ℕ → Bool
is_direct byte = nat_le 32 byte && nat_le byte 126 && not (byte == 43)

-- a character of the base64 alphabet, a digit
abbrev pub is_base64 : ℕ → Bool
is_base64 byte = is_ascii_alphanumeric byte || byte == 43 || byte == 47

-- the units, of two bytes each and the high one first, in base64 without padding: six bits a character, and zero bits after the last unit
unfoldable pub base64_of : List ℕ → List ℕ
base64_of units = encode_of standard_no_pad (flat_map (to_be_bytes w16) units)

-- the bytes of a piece
abbrev pub bytes_of : Piece → List ℕ
bytes_of (Direct byte) = byte ∷ []
bytes_of Plus = codes "+-"
bytes_of (Shift units closed) = 43 ∷ (base64_of units ++ (if closed then 45 ∷ [] else []))

-- the characters that a piece stands for
abbrev pub characters_of : Piece → List ℕ
characters_of (Direct byte) = byte ∷ []
characters_of Plus = 43 ∷ []
characters_of (Shift units closed) = utf16_lossy_chars units

-- one or more units of 16 bits, in which no surrogate lacks its partner
pub record AreUnits (units : List ℕ) : Type 0 where
  pub some : 0 < length units
  pub small : AllByRecursion (λ unit. unit < 2 ^ 16) units
  pub paired : has_unpaired_surrogate units ≡ false

-- a shift without a `-` ends before these bytes
abbrev pub EndsShift : List ℕ → Type 0
EndsShift [] = ⊤
EndsShift (byte ∷ bytes) = (is_base64 byte ≡ false) × (byte ≢ 45)

-- the piece may stand before these bytes
abbrev pub MayStand : Piece → List ℕ → Type 0
MayStand (Direct byte) after = is_direct byte ≡ true
MayStand Plus after = ⊤
MayStand (Shift units closed) after = AreUnits units × (closed ≡ false → EndsShift after)
