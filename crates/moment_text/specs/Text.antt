-- The text of a moment (ISO 8601, a date and a time of day in UTC, in the extended format; that the second has seven digits of a fraction is as Collabora Online's documentation shows LastModifiedTime).
use Rattle.std.specs.Prelude.{ℕ, ◌+◌, ◌/◌, ◌%◌, List, [], ◌∷◌, ◌++◌, codes}
use Rattle.jiff_fmt.specs.Text.{pad2, pad4}
use Rattle.moment_text.specs.Dates.{year_of, month_of}

-- year, month and the day before which so many days of the month lie
abbrev pub date_shown : ℕ → ℕ → ℕ → List ℕ
date_shown year month before = pad4 year ++ (45 ∷ (pad2 month ++ (45 ∷ pad2 (before + 1))))

-- the date of a day so many days after the first of January 1970
abbrev pub date_text : ℕ → List ℕ
date_text day =
    let year = year_of day in
    let month = month_of year.0 year.1 in
    date_shown year.0 month.0 month.1

-- a number below 1000, in three digits
abbrev pub pad3 : ℕ → List ℕ
pad3 n = (48 + n / 100) ∷ (48 + n / 10 % 10) ∷ (48 + n % 10) ∷ []

-- the time of day so many milliseconds after midnight
abbrev pub time_text : ℕ → List ℕ
time_text ms =
    pad2 (ms / 3600000) ++ (58 ∷ (pad2 (ms / 60000 % 60) ++ (58 ∷ (pad2 (ms / 1000 % 60) ++ (46 ∷ (pad3 (ms % 1000) ++ codes "0000"))))))

-- The text of a moment.
unfoldable pub moment_text : ℕ → List ℕ
moment_text moment = date_text (moment / 86400000) ++ (84 ∷ (time_text (moment % 86400000) ++ 90 ∷ []))
