-- A moment's text reads back as the moment.
use Rattle.std.proofs.Common.{◌≡◌, ℕ, pos, ◌*◌, ◌/◌, ◌%◌, ◌<◌, ◌==◌, ◌-ℤ◌, min, take_at, drop_at, List, [], ◌∷◌, ◌++◌, Some, Ok, true, false, refl, subst, arith}
use Rattle.std.proofs.lemmas.Bool.Decides.{nat_tests}
use Rattle.std.proofs.lemmas.List.{append_assoc}
use Rattle.std.specs.Char.{is_ascii_digit}
use Rattle.std.specs.List.{prefix_len}
use Rattle.jiff_core.specs.declared.civil.time.Time.{Time}
use Rattle.jiff_core.specs.declared.civil.datetime.DateTime.{DateTime}
use Rattle.jiff_core.specs.DateTime.{civil_nanos}
use Rattle.jiff_core.specs.Timestamp.{IsTimestampNanos, nanos_of_seconds}
use Rattle.jiff_core.specs.declared.error.Bound.TheVariants as Bd
use Rattle.jiff_core.specs.declared.error.Syntax.TheVariants as Syntax
use Rattle.jiff_core.proofs.SignedLemmas.{signed_arith}
use Rattle.jiff_fmt.specs.Reader.{nanoseconds, temporal_fraction, fraction_value}
use Rattle.jiff_fmt.specs.Text.{pad2, date_text, time_text, datetime_text, fraction_part, places}
use Rattle.jiff_fmt.specs.Temporal.{date_spec, date_parts, time_spec, time_parts, temporal_datetime, parse_timestamp, parts_nanos}
use Rattle.jiff_fmt.proofs.RoundTrip.{Stops, field-pad2, date_spec-text, annotations-empty, offset-zulu}
use Rattle.jiff_fmt.proofs.TemporalLemmas.{instant-ok}
use Rattle.jiff_fmt.proofs.TextLemmas.{places-read}
use Rattle.moment_text.specs.Reading.{moment_of, reading_end}
use Rattle.moment_text.specs.Text.{moment_text}
use Rattle.moment_text.proofs.Shown.{text_is}

no_digit : (rest : List ℕ) → Stops rest → prefix_len is_ascii_digit rest ≡ 0
no_digit [] s = refl
no_digit (c ∷ rest) s =
    let test : is_ascii_digit c ≡ false = grind (arith, nat_tests, s) in
    rw test

-- seven places are read as all nine where the last two are 0
places_back : (n : ℕ) (rest : List ℕ) → n < 1000000000 → n % 100 ≡ 0 → Stops rest → nanoseconds (places 7 1000000000 n ++ rest) ≡ Ok (n, rest)
unfolding nanoseconds
places_back n rest high whole s =
    let facts = places-read 7 9 n rest (omega arith) high in
    let count : min (prefix_len is_ascii_digit (places 7 1000000000 n ++ rest)) 9 ≡ 7 = omega (arith, facts.0, no_digit rest s) in
    let value : fraction_value 9 (places 7 1000000000 n) ≡ n = omega (arith, facts.2, whole) in
    rw (count, take_at (places 7 1000000000 n) rest 7 facts.1, drop_at (places 7 1000000000 n) rest 7 facts.1, value)

fraction_back : (n : ℕ) (rest : List ℕ) → n < 1000000000 → n % 100 ≡ 0 → Stops rest → temporal_fraction (fraction_part (Some 7) n ++ rest) ≡ Ok (Some n, rest)
unfolding temporal_fraction
fraction_back n rest high whole s = rw (places_back n rest high whole s)

time_back : (t : Time) (rest : List ℕ) → t.subsec_nanosecond % 100 ≡ 0 → Stops rest → time_spec (time_text (Some 7) t ++ rest) ≡ Ok ((time_parts t, true), rest)
unfolding time_spec
time_back t rest whole s =
    let fraction_read = fraction_back t.subsec_nanosecond rest t.subsec_in whole s in
    let fraction_text = fraction_part (Some 7) t.subsec_nanosecond ++ rest in
    let after_minute = 58 ∷ pad2 t.second ++ fraction_text in
    let after_hour = 58 ∷ pad2 t.minute ++ after_minute in
    let shape : time_text (Some 7) t ++ rest ≡ pad2 t.hour ++ after_hour = simp append_assoc refl in
    let hour = field-pad2 Syntax.Hour 0 23 Bd.Hour t.hour after_hour (omega arith) (omega (arith, t.hour_in)) (omega (arith, t.hour_in)) in
    let minute = field-pad2 Syntax.Minute 0 59 Bd.Minute t.minute after_minute (omega arith) (omega (arith, t.minute_in)) (omega (arith, t.minute_in)) in
    let second = field-pad2 Syntax.Second 0 60 Bd.LeapSecond t.second fraction_text (omega arith) (omega (arith, t.second_in)) (omega (arith, t.second_in)) in
    let no_leap : (t.second == 60) ≡ false = grind (arith, nat_tests, t.second_in) in
    rw (shape, hour, minute, second, no_leap, fraction_read)

instant_back : (dt : DateTime) (n : ℕ) → civil_nanos dt ≡ pos n → dt.time.subsec_nanosecond % 100 ≡ 0 → IsTimestampNanos (pos n)
    → parse_timestamp (datetime_text false 84 (Some 7) dt ++ 90 ∷ []) ≡ Ok (pos n)
unfolding temporal_datetime civil_nanos
instant_back dt n e whole range =
    let stop : Stops (90 ∷ []) = refl in
    let shape : datetime_text false 84 (Some 7) dt ++ 90 ∷ [] ≡ date_text dt.date ++ (84 ∷ time_text (Some 7) dt.time ++ 90 ∷ []) = append_assoc (date_text dt.date) (84 ∷ time_text (Some 7) dt.time) (90 ∷ []) in
    let date : date_spec (datetime_text false 84 (Some 7) dt ++ 90 ∷ []) ≡ Ok (date_parts dt.date, 84 ∷ time_text (Some 7) dt.time ++ 90 ∷ []) = rw shape (date_spec-text dt.date (84 ∷ time_text (Some 7) dt.time ++ 90 ∷ [])) in
    let clock = time_back dt.time (90 ∷ []) whole stop in
    let value : parts_nanos (date_parts dt.date) (time_parts dt.time) -ℤ nanos_of_seconds (pos 0) ≡ pos n = omega (arith, signed_arith, e) in
    rw (date, clock, offset-zulu, annotations-empty, value, instant-ok (pos n) range)

-- a clock that shows a moment shows a whole millisecond
whole_thousandth : (dt : DateTime) (moment : ℕ) → civil_nanos dt ≡ pos (moment * 1000000) → dt.time.subsec_nanosecond % 100 ≡ 0
unfolding civil_nanos
whole_thousandth dt moment e = omega (arith, signed_arith, e)

pub text_reads : (dt : DateTime) (moment : ℕ) → civil_nanos dt ≡ pos (moment * 1000000) → moment < reading_end → moment_of (moment_text moment) ≡ Some moment
unfolding moment_of
text_reads dt moment e low =
    let range : IsTimestampNanos (pos (moment * 1000000)) = (omega (arith, signed_arith), omega (arith, signed_arith, low)) in
    let back = instant_back dt (moment * 1000000) e (whole_thousandth dt moment e) range in
    let read : parse_timestamp (moment_text moment) ≡ Ok (pos (moment * 1000000)) = subst (λ text. parse_timestamp text ≡ Ok (pos (moment * 1000000))) (text_is dt moment e) back in
    let whole : (moment * 1000000 % 1000000 == 0) ≡ true = grind (arith, nat_tests) in
    let same : moment * 1000000 / 1000000 ≡ moment = omega arith in
    rw (read, whole, same)
