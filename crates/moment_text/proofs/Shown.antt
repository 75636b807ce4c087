-- What a clock in UTC shows is the text of the moment.
use Rattle.std.proofs.Common.{◌≡◌, ℕ, ℤ, pos, negsuc, neg_ℤ, suc, ◌+◌, ◌-◌, ◌*◌, ◌/◌, ◌%◌, ◌<◌, ◌≤◌, ◌+ℤ◌, ◌≤ℤ◌, ◌<ℤ◌, List, [], ◌∷◌, ◌++◌, false, Some, inl, inr, refl, ap, sym, ◌∙◌, arith, codes}
use Rattle.std.proofs.lemmas.Bool.{cases_lt}
use Rattle.std.proofs.lemmas.List.{append_assoc}
use Rattle.std.specs.Int.{int_div_euclid}
use Rattle.jiff_core.specs.declared.civil.time.Time.{Time}
use Rattle.jiff_core.specs.declared.civil.datetime.DateTime.{DateTime}
use Rattle.jiff_core.specs.Calendar.{IsCivilDate, day_count, day_of_year, days_from_civil, days_in_year, days_in_month}
use Rattle.jiff_core.specs.Date.{epoch_day}
use Rattle.jiff_core.specs.DateTime.{civil_nanos}
use Rattle.jiff_core.specs.Time.{time_nanos}
use Rattle.jiff_core.proofs.CalendarLemmas.{day_count-epoch, days_from_civil-day_count, day_of_year_bound, day_count-day_of_year, day_count-next_year, day_count-lt_year, day_count-day, day_count-next_month}
use Rattle.jiff_core.proofs.DateLemmas.{civil}
use Rattle.jiff_core.proofs.DateTimeLemmas.{civil_nanos-parts, epoch_day-civil_nanos, time_nanos_bound}
use Rattle.jiff_core.proofs.SignedLemmas.{signed_arith}
use Rattle.jiff_fmt.specs.Text.{pad2, pad4, year_text, places, fraction_part}
use Rattle.jiff_fmt.specs.Text as text
use Rattle.jiff_fmt.specs.Printer.{options}
use Rattle.jiff_fmt.specs.Printer as printer
use Rattle.jiff_fmt.specs.declared.temporal.printer.DateTimePrinter.{DateTimePrinter}
use Rattle.moment_text.specs.Dates.{year_of, month_of}
use Rattle.moment_text.specs.Text.{date_shown, date_text, pad3, time_text, moment_text}
use Rattle.moment_text.proofs.Passing.{Follows, reaches}

years_follow : Follows (λ year. days_in_year (pos year)) (λ year. day_count (pos year) 1 1) 0
years_follow place low =
    let above : neg_ℤ (pos 10000) ≤ℤ pos place = omega (arith, signed_arith) in
    let next : pos (suc place) ≡ pos place +ℤ pos 1 = omega (arith, signed_arith) in
    day_count-next_year (pos place) (pos (suc place)) above next

months_follow : (year : ℕ) → Follows (days_in_month (pos year)) (λ month. day_count (pos year) month 1) 1
months_follow year place low =
    let next : suc place ≡ place + 1 = omega arith in
    ap (λ month. day_count (pos year) month 1) next ∙ day_count-next_month (pos year) place low

-- the year and the month of a date
year_is : (y m d day : ℕ) → IsCivilDate (pos y) m d → 1970 ≤ y → day_count (pos y) m d ≡ 4371953 + day → year_of day ≡ (y, day_of_year (pos y) m d - 1)
year_is y m d day form since count =
    let bound = day_of_year_bound (pos y) m d form in
    let parts = day_count-day_of_year (pos y) m d form.2.0 in
    let some : 1 ≤ day_of_year (pos y) m d = omega (arith, form.2.0) in
    let total : day_count (pos y) 1 1 + (day_of_year (pos y) m d - 1) ≡ day_count (pos 1970) 1 1 + day = omega (arith, day_count-epoch, parts, count, some) in
    reaches (λ year. days_in_year (pos year)) (λ year. day_count (pos year) 1 1) 0 years_follow (y - 1970) 8029 1970 y day (day_of_year (pos y) m d - 1)
    (omega arith) (omega (arith, since)) (omega (arith, form.0.1, signed_arith)) (omega (arith, bound, some)) total

month_is : (y m d : ℕ) → IsCivilDate (pos y) m d → month_of y (day_of_year (pos y) m d - 1) ≡ (m, d - 1)
month_is y m d form =
    let parts = day_count-day_of_year (pos y) m d form.2.0 in
    let days = day_count-day (pos y) m d 1 form.2.0 (omega arith) in
    let some : 1 ≤ day_of_year (pos y) m d = omega (arith, form.2.0) in
    let total : day_count (pos y) m 1 + (d - 1) ≡ day_count (pos y) 1 1 + (day_of_year (pos y) m d - 1) = omega (arith, parts, days, some, form.2.0) in
    reaches (days_in_month (pos y)) (λ month. day_count (pos y) month 1) 1 (months_follow y) (m - 1) 11 1 m (day_of_year (pos y) m d - 1) (d - 1)
    (omega arith) (omega (arith, form.1.0)) (omega (arith, form.1.1)) (omega (arith, form.2.0, form.2.1)) total

-- a date from 1970 on
date_since : (y m d day : ℕ) → IsCivilDate (pos y) m d → 1970 ≤ y → day_count (pos y) m d ≡ 4371953 + day
    → date_text day ≡ pad4 y ++ (45 ∷ (pad2 m ++ (45 ∷ pad2 d)))
date_since y m d day form since count =
    let year = year_is y m d day form since count in
    let month = month_is y m d form in
    let same : d - 1 + 1 ≡ d = omega (arith, form.2.0) in
    let step : date_text day ≡ date_shown y (month_of y (day_of_year (pos y) m d - 1)).0 (month_of y (day_of_year (pos y) m d - 1)).1
    = ap (λ found. date_shown found.0 (month_of found.0 found.1).0 (month_of found.0 found.1).1) year in
    step ∙ ap (λ found. date_shown y found.0 found.1) month ∙ ap (λ n. pad4 y ++ (45 ∷ (pad2 m ++ (45 ∷ pad2 n)))) same

date_is : (y : ℤ) (m d day : ℕ) → IsCivilDate y m d → days_from_civil y m d ≡ pos day
    → date_text day ≡ year_text y ++ (45 ∷ (pad2 m ++ (45 ∷ pad2 d)))
date_is (pos y) m d day form e =
    let count : day_count (pos y) m d ≡ 4371953 + day = omega (arith, signed_arith, days_from_civil-day_count (pos y) m d, e) in
    elim (cases_lt y 1970) [
      | inl early ↦
          let before : pos y <ℤ pos 1970 = omega (arith, signed_arith, early) in
          absurd (omega (arith, count, day_count-epoch, day_count-lt_year (pos y) m d (pos 1970) 1 1 form (omega arith) before))
      | inr since ↦ date_since y m d day form since count
    ]
date_is (negsuc y) m d day form e =
    let count : day_count (negsuc y) m d ≡ 4371953 + day = omega (arith, signed_arith, days_from_civil-day_count (negsuc y) m d, e) in
    let before : negsuc y <ℤ pos 1970 = omega (arith, signed_arith) in
    absurd (omega (arith, count, day_count-epoch, day_count-lt_year (negsuc y) m d (pos 1970) 1 1 form (omega arith) before))

-- seven places of a whole number of thousandths
pub seven_places : (k n : ℕ) → k < 1000 → n ≡ k * 1000000 → places 7 1000000000 n ≡ pad3 k ++ codes "0000"
unfolding places
seven_places k n low e =
    let a : n / 100000000 ≡ k / 100 = omega (arith, e) in
    let b : n % 100000000 / 10000000 ≡ k / 10 % 10 = omega (arith, e) in
    let c : n % 100000000 % 10000000 / 1000000 ≡ k % 10 = omega (arith, e) in
    let none : n % 100000000 % 10000000 % 1000000 ≡ 0 = omega (arith, e) in
    rw (a, b, c, none)

time_is : (t : Time) (ms : ℕ) → ms < 86400000 → time_nanos t ≡ ms * 1000000 → text.time_text (Some 7) t ≡ time_text ms
time_is t ms low e =
    let total : t.hour * 3600 + t.minute * 60 + t.second ≡ ms / 1000 = omega (arith, e, t.subsec_in) in
    let sub : t.subsec_nanosecond ≡ ms % 1000 * 1000000 = omega (arith, e, total, t.subsec_in) in
    let hour : t.hour ≡ ms / 3600000 = omega (arith, total, t.minute_in, t.second_in) in
    let minute : t.minute ≡ ms / 60000 % 60 = omega (arith, total, t.minute_in, t.second_in, t.hour_in) in
    let second : t.second ≡ ms / 1000 % 60 = omega (arith, total, t.minute_in, t.second_in) in
    let fraction : fraction_part (Some 7) t.subsec_nanosecond ≡ 46 ∷ (pad3 (ms % 1000) ++ codes "0000")
    = ap (λ digits. 46 ∷ digits) (seven_places (ms % 1000) t.subsec_nanosecond (omega arith) sub) in
    rw (fraction, hour, minute, second)

pub text_is : (dt : DateTime) (moment : ℕ) → civil_nanos dt ≡ pos (moment * 1000000)
    → text.datetime_text false 84 (Some 7) dt ++ 90 ∷ [] ≡ moment_text moment
unfolding moment_text
text_is dt moment e =
    let parts = civil_nanos-parts dt in
    let bound = time_nanos_bound dt.time in
    let whole : epoch_day dt.date ≡ pos (moment * 1000000 / 86400000000000) = epoch_day-civil_nanos dt ∙ ap (λ z. int_div_euclid z (pos 86400000000000)) e in
    let quotient : moment * 1000000 / 86400000000000 ≡ moment / 86400000 = omega arith in
    let day : epoch_day dt.date ≡ pos (moment / 86400000) = whole ∙ ap pos quotient in
    let nanos : time_nanos dt.time ≡ moment % 86400000 * 1000000 = omega (arith, signed_arith, parts, e, day, bound) in
    let date = date_is dt.date.year dt.date.month dt.date.day (moment / 86400000) (civil dt.date) day in
    let time = time_is dt.time (moment % 86400000) (omega arith) nanos in
    let shape : text.date_text dt.date ≡ year_text dt.date.year ++ (45 ∷ (pad2 dt.date.month ++ (45 ∷ pad2 dt.date.day))) = simp append_assoc refl in
    append_assoc (text.date_text dt.date) (84 ∷ text.time_text (Some 7) dt.time) (90 ∷ [])
    ∙ (λ i. (shape ∙ sym date) i ++ (84 ∷ (time i ++ 90 ∷ [])))

-- what such a printer writes, with a `Z` behind it
pub written : (p : DateTimePrinter) (dt : DateTime) (moment : ℕ) (start shown before whole : List ℕ) → options p ≡ (false, 84, Some 7)
    → civil_nanos dt ≡ pos (moment * 1000000) → start ≡ [] → shown ≡ printer.datetime_text p dt → before ≡ start ++ shown → whole ≡ before ++ 90 ∷ []
    → whole ≡ moment_text moment
written p dt moment start shown before whole o e a b c d =
    let lower : p.lowercase ≡ false = ap (λ x. x.0) o in
    let separator : p.separator ≡ 84 = ap (λ x. x.1) o in
    let precision : p.precision ≡ Some 7 = ap (λ x. x.2) o in
    rw (d, c, a, b, lower, separator, precision) (text_is dt moment e)
