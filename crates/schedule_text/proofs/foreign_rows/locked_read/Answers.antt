use Rattle.std.proofs.Common.{List, ℕ, ◌≡◌, refl, sym, subst, ◌∙◌}
use Rattle.schedule_text.specs.Grammar.{words_of}
use Rattle.schedule_text.specs.RowKinds.{IsLocked}
use Rattle.schedule_text.proofs.RowForms.{locked_words, three_same}
use Rattle.schedule_text.proofs.foreign_rows.locked_read.Goals as goal

pub returns-in_default-locked_op-clause-none : goal.returns-in_default-locked_op-clause-none
returns-in_default-locked_op-clause-none c = λ ask is asked.
    let (word, id, locked, form, words) = locked_words (words_of c.args.text.now) ask asked ask.op refl is in
    let same = three_same _ _ _ _ _ _ _ c.in-Some.ensures.some words in
    let lock : id ≡ c.in-Some-lock_read.lock = sym same.2 ∙ sym c.in-Some-lock_read.ensures.value in
    let first = subst (λ (w : List ℕ). IsLocked w id ask.op) (sym same.0) locked in
    c.in_default-locked_op.ensures.none ask.op (subst (λ (i : List ℕ). IsLocked c.in-Some.kind.now i ask.op) lock first)
