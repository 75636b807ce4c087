-- Numbers in decimal digits, and canonical decimals. (Own: one text for each number.)
use Rattle.std.specs.Prelude.{ℕ, ◌+◌, ◌-◌, ◌^◌, Bool, List, length, slice_index, Option, Some, None, nat_lt, not, ◌==◌, ◌&&◌, ◌||◌, if◌then◌else◌}
use Rattle.std.specs.List.{list_all}
use Rattle.std.specs.Char.{is_ascii_digit}
use Rattle.std.specs.Str.Parse.{digits_value}

-- one or more digits
abbrev pub are_digits : List ℕ → Bool
are_digits digits = nat_lt 0 (length digits) && list_all is_ascii_digit digits

-- the number of one or more digits, if it is at most this one
abbrev pub digits_up_to : List ℕ → ℕ → Option ℕ
digits_up_to digits most =
    if are_digits digits && nat_lt (digits_value 10 digits) (most + 1) then Some (digits_value 10 digits) else None

-- the number of one or more digits, if it is at most the greatest u64
abbrev pub digits_of : List ℕ → Option ℕ
digits_of digits = digits_up_to digits (2 ^ 64 - 1)

-- the first digit is no zero, unless it is the only one
abbrev pub has_no_leading_zero : List ℕ → Bool
has_no_leading_zero digits = length digits == 1 || not (slice_index digits 0 == 48)

-- the number of a canonical decimal
abbrev pub decimal_of : List ℕ → Option ℕ
decimal_of digits = if has_no_leading_zero digits then digits_of digits else None
