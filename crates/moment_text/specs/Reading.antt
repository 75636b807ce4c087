-- The moment that a text tells. (ISO 8601 and RFC 9557, as jiff reads them: a date, a time and an offset or `Z`. That a part of a millisecond tells no moment is own.)
use Rattle.std.specs.Prelude.{ℕ, ◌/◌, ◌%◌, ◌==◌, List, Option, Some, None, option_and_then, ℤ, pos, negsuc, if◌then◌else◌}
use Rattle.std.specs.Result.{result_ok}
use Rattle.jiff_fmt.specs.Temporal.{parse_timestamp}

-- nanoseconds since 1970 as milliseconds, where they are whole and 1970 has begun
abbrev pub whole_milliseconds : ℤ → Option ℕ
whole_milliseconds (pos n) = if n % 1000000 == 0 then Some (n / 1000000) else None
whole_milliseconds (negsuc n) = None

-- the moment that a text tells, if it tells one
unfoldable pub moment_of : List ℕ → Option ℕ
moment_of text = option_and_then whole_milliseconds (result_ok (parse_timestamp text))

-- where what is read ends: 26 hours before moments do, so that each of them has a date at every offset
abbrev pub reading_end : ℕ
reading_end = 253402207201000
