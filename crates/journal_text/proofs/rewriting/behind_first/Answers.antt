use Rattle.std.proofs.Common.{sym, ◌∙◌}
use Rattle.journal_text.proofs.Rows.{no_line, one_first}
use Rattle.journal_text.proofs.rewriting.behind_first.Goals as goal

pub returns-in-Some : goal.returns-in-Some
returns-in-Some c = λ row rest form is.
    (one_first c.in-Some.field-0-0.now c.in-Some.rest.now row rest c.in-Some.ensures.some.1 form (sym c.in-Some.ensures.some.0 ∙ is)).rests

pub returns-in-None : goal.returns-in-None
returns-in-None c = λ row rest form is. absurd (no_line c.args.bytes.now row rest c.in-None.ensures.none is)
