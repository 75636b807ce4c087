-- The date of a day (the Gregorian calendar, ISO 8601). (That years and months are passed one by one is own.)
use Rattle.std.specs.Prelude.{ℕ, zero, suc, ◌-◌, nat_lt, pos, if◌then◌else◌}
use Rattle.jiff_core.specs.Calendar.{days_in_year, days_in_month}

-- Years or months pass, each of its length in days: that in which a day lies which stands so many days behind the first of this one, and how many of those days are left then. So many pass at most.
unfoldable pub passed : (ℕ → ℕ) → ℕ → ℕ → ℕ → ℕ × ℕ
passed lengths zero place days = (place, days)
passed lengths (suc most) place days =
    if nat_lt days (lengths place) then (place, days) else passed lengths most (suc place) (days - lengths place)

-- the year of a day so many days after the first of January 1970, and how many days of the year lie before it
abbrev pub year_of : ℕ → ℕ × ℕ
year_of day = passed (λ year. days_in_year (pos year)) 8029 1970 day

-- the month of a day of the year, so many days after its first, and how many days of the month lie before it
abbrev pub month_of : ℕ → ℕ → ℕ × ℕ
month_of year days = passed (days_in_month (pos year)) 11 1 days
