use Rattle.std.proofs.Common.{ap, ◌∙◌, ◌∷◌}
use Rattle.journal_text.specs.Words.{words_of}
use Rattle.journal_text.proofs.entry.time_read.Goals as goal

pub returns-clause-some : goal.returns-clause-some
returns-clause-some c =
    let now = (c.moment_read.ensures c.in-Some-moment_read.now).0 c.in-Some-moment_read.is in
    (now.0, c.in-Some.ensures.some ∙ ap (λ word. word ∷ words_of c.in-Some.rest.now) now.1)
