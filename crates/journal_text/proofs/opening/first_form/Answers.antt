use Rattle.std.proofs.Common.{◌≡◌, ◌∙◌}
use Rattle.std.specs.Prelude.{codes}
use Rattle.journal_text.proofs.opening.first_form.Goals as goal

pub returns-clause-some : goal.returns-clause-some
returns-clause-some c =
    let word : c.in-Some.word.now ≡ codes "opened" = c.is_word.ensures.0 c.if-not-is_word.false ∙ c.as_slice.ensures in
    let opened = (c.moment_read.ensures c.in-Some-moment_read.opened).0 c.in-Some-moment_read.is in
    (opened.0, cc (c.in-Some.ensures.some, word, c.has_more.ensures.one c.if-has_more.false, opened.1))
