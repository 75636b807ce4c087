-- Whole numbers in decimal digits, and the value of a cell that is no formula. (Own: one text for each number.)
use Rattle.std.specs.Prelude.{ℕ, zero, suc, ◌^◌, ◌-◌, Bool, List, [], ◌∷◌, length, drop, slice_index, Option, Some, None, nat_le, not, ℤ, pos, negsuc, ◌==◌, ◌&&◌, ◌||◌, if◌then◌else◌, option_map}
use Rattle.std.specs.Str.Parse.{digits_value}
use Rattle.wopi_text.specs.Decimals.{are_digits}
use Rattle.grid_formulas.specs.declared.value.Value.{Value}
use Rattle.grid_formulas.specs.declared.value.Value.TheVariants as value

-- digits, the first of which is no zero unless it is the only one
abbrev pub is_canonical : List ℕ → Bool
is_canonical digits = are_digits digits && (length digits == 1 || not (slice_index digits 0 == 48))

-- the number of a canonical decimal, if it is at most the limit
abbrev pub natural_of : ℕ → List ℕ → Option ℕ
natural_of limit digits =
    if is_canonical digits && nat_le (digits_value 10 digits) limit then Some (digits_value 10 digits) else None

-- the number below 0 with this magnitude; 0 is written without a sign
abbrev pub negative_of : ℕ → Option ℤ
negative_of zero = None
negative_of (suc n) = Some (negsuc n)

abbrev pub negative_if : Option ℕ → Option ℤ
negative_if None = None
negative_if (Some n) = negative_of n

-- the number whose digits stand behind a sign
abbrev pub below_zero_of : List ℕ → Option ℤ
below_zero_of digits = negative_if (natural_of (2 ^ 127) digits)

abbrev pub from_zero_of : List ℕ → Option ℤ
from_zero_of digits = option_map pos (natural_of (2 ^ 127 - 1) digits)

-- the i128 of a canonical decimal, with `-` before it where it is below 0
abbrev pub integer_of : List ℕ → Option ℤ
integer_of text = if slice_index text 0 == 45 then below_zero_of (drop 1 text) else from_zero_of text

abbrev pub number_or_text : Option ℤ → Value
number_or_text None = value.Text
number_or_text (Some number) = value.Number number

abbrev pub plain_value : List ℕ → Value
plain_value [] = value.Empty
plain_value (byte ∷ rest) = number_or_text (integer_of (byte ∷ rest))
