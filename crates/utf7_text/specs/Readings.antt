-- How UTF-7 text is read. (RFC 2152 with the choices of `Pieces`; where a fault lies is own.)
use Rattle.std.specs.Prelude.{Option, Some, None, drop, ◌≤◌, ℕ, ◌+◌, ◌<◌, ◌≡◌, List, [], ◌∷◌, ◌++◌, flat_map, length, encode_utf8_all, ⊤}
use Rattle.std.specs.Char.Utf16.{utf16_lossy_chars}
use Rattle.utf7_text.specs.Pieces.{AreUnits, Piece, bytes_of, characters_of, base64_of, MayStand}
use Rattle.utf7_text.specs.declared.fault.Utf7Fault.{Utf7Fault}
use Rattle.utf7_text.specs.declared.fault.Utf7Fault.TheVariants.{Bad, Memory}

-- the piece begins the bytes, and may stand before those after it
abbrev pub Begins : List ℕ → Piece → List ℕ → Type 0
Begins bytes piece after = (bytes ≡ bytes_of piece ++ after) × MayStand piece after

-- the bytes are these pieces, and then the rest
abbrev pub CutsInto : List ℕ → List Piece → List ℕ → Type 0
CutsInto bytes [] rest = bytes ≡ rest
CutsInto bytes (piece ∷ pieces) rest = (after : List ℕ) × Begins bytes piece after × CutsInto after pieces rest

-- the text, in UTF-8, that pieces stand for
abbrev pub text_of : List Piece → List ℕ
text_of pieces = encode_utf8_all (flat_map characters_of pieces)

-- the bytes up to the rest stand for the text
abbrev pub ReadsUpTo : List ℕ → List ℕ → List ℕ → Type 0
ReadsUpTo bytes rest text = (pieces : List Piece) × CutsInto bytes pieces rest × (text ≡ text_of pieces)

-- the bytes stand for the text, which is in UTF-8
abbrev pub IsReading : List ℕ → List ℕ → Type 0
IsReading bytes text = ReadsUpTo bytes [] text

-- no piece begins the bytes
abbrev pub BeginsNoPiece : List ℕ → Type 0
BeginsNoPiece bytes = (piece : Piece) (after : List ℕ) → ¬ Begins bytes piece after

-- the digits are those of a shift, which stands for the text
abbrev pub IsShifted : List ℕ → List ℕ → Type 0
IsShifted digits text = (units : List ℕ) × AreUnits units × (digits ≡ base64_of units) × (text ≡ encode_utf8_all (utf16_lossy_chars units))

-- The piece that begins the bytes takes so many of them, and what it stands for came to the end of the text; or no piece begins them.
abbrev pub TakesPiece : List ℕ → List ℕ → List ℕ → Option ℕ → Type 0
TakesPiece bytes old new (Some len) = (piece : Piece) × Begins bytes piece (drop len bytes) × (new ≡ old ++ encode_utf8_all (characters_of piece)) × (0 < len) × (len ≤ length bytes)
TakesPiece bytes old new None = BeginsNoPiece bytes

-- what stands before the place is read, and at the place there is no piece: a byte that may not stand there, or the `+` of a shift that is none
pub record IsBadAt (bytes : List ℕ) (at : ℕ) : Type 0 where
  pub rest : List ℕ
  pub text : List ℕ
  pub before : ReadsUpTo bytes rest text
  pub place : at + length rest ≡ length bytes
  pub some : 0 < length rest
  pub bad : BeginsNoPiece rest

-- why the bytes aren't read
abbrev pub IsUtf7FaultOf : List ℕ → Utf7Fault → Type 0
IsUtf7FaultOf bytes (Bad at) = IsBadAt bytes at
IsUtf7FaultOf bytes Memory = ⊤
