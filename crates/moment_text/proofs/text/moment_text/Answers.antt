use Rattle.std.proofs.Common.{◌≡◌, ◌∙◌, ◌*◌, pos, Some, false, ap, lit<, arith}
use Rattle.jiff_core.specs.DateTime.{civil_nanos}
use Rattle.std.specs.Int.{w128}
use Rattle.jiff_core.proofs.SignedLemmas.{back_small}
use Rattle.jiff_fmt.specs.Printer.{options}
use Rattle.moment_text.specs.Reading.{moment_of}
use Rattle.moment_text.proofs.Shown.{written}
use Rattle.moment_text.proofs.ReadBack.{text_reads}
use Rattle.moment_text.proofs.text.moment_text.Goals as goal

pub returns-clause-text : goal.returns-clause-text
returns-clause-text c =
    let nanos : civil_nanos c.from_nanosecond_in_range-shown.result ≡ pos (c.args.moment * 1000000) = c.from_nanosecond_in_range-shown.ensures ∙ back_small w128 (pos (c.args.moment * 1000000)) (omega (arith, c.requires)) in
    let set : options c.precision-printer.result ≡ (false, 84, Some 7) = c.precision-printer.ensures ∙ ap (λ o. (o.0, o.1, Some 7)) c.new.ensures in
    written c.precision-printer.result c.from_nanosecond_in_range-shown.result c.args.moment c.new-text.result.bytes c.as_str.result.now c.push_str.new.self.bytes c.push.new.self.bytes
    set nanos c.new-text.ensures (c.as_str.ensures.value ∙ c.datetime_text.ensures) c.push_str.ensures.bytes (c.push.ensures.ascii (lit< tt))

pub returns-clause-reads : goal.returns-clause-reads
returns-clause-reads c = λ low.
    let nanos : civil_nanos c.from_nanosecond_in_range-shown.result ≡ pos (c.args.moment * 1000000) = c.from_nanosecond_in_range-shown.ensures ∙ back_small w128 (pos (c.args.moment * 1000000)) (omega (arith, c.requires)) in
    ap moment_of (returns-clause-text c) ∙ text_reads c.from_nanosecond_in_range-shown.result c.args.moment nanos low
