use Rattle.std.proofs.Common.{refl}
use Rattle.schedule_text.specs.Grammar.{words_of}
use Rattle.schedule_text.proofs.RowForms.{copy_words, five_same}
use Rattle.schedule_text.proofs.foreign_rows.copy_read.Goals as goal

pub returns-in_default-id_read-2-clause-none : goal.returns-in_default-id_read-2-clause-none
returns-in_default-id_read-2-clause-none c = λ ask is asked.
    let (name, overwrite, digits, form, words) = copy_words (words_of c.args.text.now) ask asked ask.op refl is in
    let same = five_same _ _ _ _ _ _ _ _ _ _ _ c.in-Some.ensures.some words in
    cc (c.in_default-id_read-2.ensures.exact.1 (name, form, same.2))
