-- The one form in which UTF-7 text is written. (Own: RFC 2152 leaves open which of its optional direct characters are written directly, and whether a shift is closed where it need not be.)
use Rattle.std.specs.Prelude.{ℕ, Bool, true, ◌||◌, ◌==◌, if◌then◌else◌, List, [], ◌∷◌, ◌++◌, flat_map, codes}
use Rattle.std.specs.Char.{is_ascii_alphanumeric}
use Rattle.std.specs.Char.Escape.{encode_utf16}
use Rattle.std.specs.List.{list_any}
use Rattle.std.specs.Str.{chars}
use Rattle.utf7_text.specs.Pieces.{Piece, Direct, Shift, bytes_of}

-- a letter or digit of ASCII, a space, or one of these marks
abbrev pub is_plain : ℕ → Bool
is_plain character = is_ascii_alphanumeric character || list_any (λ mark. mark == character) (codes " '(),-./:?")

-- the units come into the shift at the front, or make a closed one
abbrev pub in_front : List ℕ → List Piece → List Piece
in_front units [] = Shift units true ∷ []
in_front units (Shift more closed ∷ pieces) = Shift (units ++ more) closed ∷ pieces
in_front units (piece ∷ pieces) = Shift units true ∷ piece ∷ pieces

-- the characters as pieces: each plain one is itself, and each longest run of others a closed shift
abbrev pub pieces_of : List ℕ → List Piece
pieces_of [] = []
pieces_of (character ∷ characters) =
    if is_plain character then Direct character ∷ pieces_of characters else in_front (encode_utf16 character) (pieces_of characters)

-- what a text in UTF-8 is written as
abbrev pub written : List ℕ → List ℕ
written text = flat_map bytes_of (pieces_of (chars text))
