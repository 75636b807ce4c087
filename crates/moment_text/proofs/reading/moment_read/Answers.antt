use Rattle.std.proofs.Common.{◌≡◌, ◌∙◌, Ok, Err, ap, sym, arith, to_z-of_z}
use Rattle.std.specs.Int.{w128}
use Rattle.jiff_core.proofs.SignedLemmas.{fits_between, signed_arith}
use Rattle.std.specs.Option.{option_and_then}
use Rattle.std.specs.Result.{result_ok}
use Rattle.jiff_fmt.specs.Temporal.{parse_timestamp, timestamp_view}
use Rattle.moment_text.specs.Reading.{moment_of, whole_milliseconds}
use Rattle.moment_text.proofs.reading.moment_read.Goals as goal

pub returns-in-Ok : goal.returns-in-Ok
unfolding moment_of
returns-in-Ok c =
    let seen : parse_timestamp c.args.bytes.now ≡ Ok c.in-Ok.timestamp.nanosecond = sym c.parse_timestamp.ensures ∙ ap timestamp_view c.in-Ok.is in
    let nanoseconds = c.in-Ok.timestamp.nanosecond in
    let fits = fits_between w128 nanoseconds (omega (arith, signed_arith, c.in-Ok.timestamp.in_range.0, c.in-Ok.timestamp.in_range.1), omega (arith, signed_arith, c.in-Ok.timestamp.in_range.0, c.in-Ok.timestamp.in_range.1)) in
    c.whole_milliseconds.ensures ∙ ap whole_milliseconds (to_z-of_z fits) ∙ sym (ap (λ read. option_and_then whole_milliseconds (result_ok read)) seen)

pub returns-in-Err : goal.returns-in-Err
unfolding moment_of
returns-in-Err c =
    let seen : parse_timestamp c.args.bytes.now ≡ Err c.in-Err.field-0 = sym c.parse_timestamp.ensures ∙ ap timestamp_view c.in-Err.is in
    sym (ap (λ read. option_and_then whole_milliseconds (result_ok read)) seen)
