use Rattle.command_words.proofs.SpanLemmas.{if_none, no_span}
use Rattle.command_words.proofs.span.span_of.Goals as goal

pub returns-in-Some-clause-none : goal.returns-in-Some-clause-none
returns-in-Some-clause-none c =
    if_none c.spanned.result
    (no_span c.args.word.now c.as_bytes.result.now c.in-Some.count c.unit_of.result c.as_bytes.ensures.value c.in-Some.ensures c.unit_of.ensures)
    c.spanned.ensures.none
