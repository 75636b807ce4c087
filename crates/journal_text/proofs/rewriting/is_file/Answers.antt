use Rattle.std.proofs.Common.{[], get_or, ap, sym, ◌∙◌}
use Rattle.journal_text.proofs.Again.{no_number, not_so}
use Rattle.journal_text.proofs.rewriting.is_file.Goals as goal

pub returns-in-Some-clause-line : goal.returns-in-Some-clause-line
returns-in-Some-clause-line c = λ line form is.
    not_so c.is_word.result
    (λ yes. no_number line.stamp form.stamp (sym (ap (λ l. get_or l 0 []) (sym c.in-Some.ensures.some ∙ is)) ∙ c.is_word.ensures.0 yes ∙ c.as_slice.ensures))
