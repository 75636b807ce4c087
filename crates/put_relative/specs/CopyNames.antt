-- Names for a file that a host makes beside another one. (MS-WOPI, PutRelativeFile: a suggested target that begins with a period is an ending for the source's stem, and the host changes a suggestion until it is a name that it can give. How it changes it is own.)
use Rattle.std.specs.Prelude.{ℕ, ◌≤◌, ◌-◌, ◌==◌, ◌||◌, Bool, if◌then◌else◌, List, ◌++◌, length, take, drop, map, slice_index, codes, decimal}
use Rattle.std.specs.List.{list_any, before_last, suffix_len}
use Rattle.std.specs.Str.{chars, encode_utf8_all}
use Rattle.wopi_text.specs.FileName.{IsFileName, is_name_char}

abbrev pub is_period : ℕ → Bool
is_period byte = byte == 46

-- what stands before the last period of a name; a name without a period is all stem
abbrev pub stem_of : List ℕ → List ℕ
stem_of name = if list_any is_period name then before_last is_period name else name

-- the last period and what stands after it
abbrev pub ending_of : List ℕ → List ℕ
ending_of name = drop (length (stem_of name)) name

-- a character that no name may have becomes `_`
abbrev pub in_a_name : ℕ → ℕ
in_a_name character = if is_name_char character then character else 95

-- the text with each such character replaced, in UTF-8
abbrev pub replaced : List ℕ → List ℕ
replaced text = encode_utf8_all (map in_a_name (chars text))

-- a period or a space, with which no name may end
abbrev pub is_closing : ℕ → Bool
is_closing byte = byte == 46 || byte == 32

-- the text without closing periods and spaces
abbrev pub without_closing : List ℕ → List ℕ
without_closing text = take (length text - suffix_len is_closing text) text

-- what a suggestion asks for: with a period at its start it is an ending for the source's stem
abbrev pub asked_for : List ℕ → List ℕ → List ℕ
asked_for source suggestion =
    if slice_index suggestion 0 == 46 then stem_of source ++ replaced suggestion else replaced suggestion

-- the tidied text
abbrev pub tidied : List ℕ → List ℕ → List ℕ
tidied source suggestion = without_closing (asked_for source suggestion)

-- a file's name that leaves room for the number of a copy
pub record IsTidy (name : List ℕ) : Type 0 where
  pub form : IsFileName name
  pub room : length name ≤ 123

-- the name of a copy: the name itself, and then `stem (n)ending`
abbrev pub copy_name : List ℕ → ℕ → List ℕ
copy_name name n =
    if n == 0 then name else stem_of name ++ (codes " (" ++ (decimal n ++ (codes ")" ++ ending_of name)))
