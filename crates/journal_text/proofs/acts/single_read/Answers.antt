use Rattle.std.proofs.Common.{sym, ◌∙◌}
use Rattle.journal_text.proofs.Asking.{not_single}
use Rattle.journal_text.proofs.acts.single_read.Goals as goal

pub returns-in_default-locking_read-clause-none : goal.returns-in_default-locking_read-clause-none
returns-in_default-locking_read-clause-none c = λ asked form is.
    not_single c.args.word.now c.args.of.now asked (λ e. cc (sym (c.is_word.ensures.1 (e ∙ sym c.as_slice.ensures)) ∙ c.if-is_word.false))
    (c.in_default-locking_read.ensures.none asked) is
