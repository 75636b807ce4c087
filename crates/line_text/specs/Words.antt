-- The lines of a text, the words of a line, and what a word says. (Own.)
use Rattle.std.specs.Prelude.{◌≡◌, ◌==◌, All, Bool, false, ℕ, List, [], ◌∷◌, codes, if◌then◌else◌}
use Rattle.std.specs.List.{slice_split}
use Rattle.hex.specs.Hex.{encode_lower}

-- the parts of a text between the bytes that are the mark
abbrev pub parts_at : ℕ → List ℕ → List (List ℕ)
parts_at mark text = slice_split (λ byte. byte == mark) text

-- the words of a line, which single spaces separate
abbrev pub words_of : List ℕ → List (List ℕ)
words_of row = slice_split (λ byte. byte == 32) row

-- a line without its line feed
abbrev pub IsRow : List ℕ → Type 0
IsRow bytes = All (λ byte. (byte == 10) ≡ false) bytes

-- bytes in lower-case hex, or a dash where there are none
abbrev pub hex_text : List ℕ → List ℕ
hex_text [] = codes "-"
hex_text (byte ∷ bytes) = encode_lower (byte ∷ bytes)

-- a yes or a no
abbrev pub yes_or_no : Bool → List ℕ
yes_or_no test = if test then codes "yes" else codes "no"
