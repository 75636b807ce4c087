use Rattle.std.proofs.Common.{List, ℕ, refl, sym, subst}
use Rattle.schedule_text.specs.Grammar.{words_of}
use Rattle.schedule_text.specs.RowKinds.{IsBare}
use Rattle.schedule_text.proofs.RowForms.{bare_words, two_same}
use Rattle.schedule_text.proofs.foreign_rows.bare_read.Goals as goal

pub returns-in_default-bare_op-clause-none : goal.returns-in_default-bare_op-clause-none
returns-in_default-bare_op-clause-none c = λ ask is asked.
    let (word, bare, words) = bare_words (words_of c.args.text.now) ask asked ask.op refl is in
    let same = two_same _ _ _ _ _ c.in-Some.ensures.some words in
    c.in_default-bare_op.ensures.none ask.op (subst (λ (w : List ℕ). IsBare w ask.op) (sym same.0) bare)
