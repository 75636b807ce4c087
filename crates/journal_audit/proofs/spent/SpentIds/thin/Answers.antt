use Rattle.std.proofs.Common.{◌∙◌, ap, sym}
use Rattle.journal_audit.specs.Spent.{Ends, refuses}
use Rattle.journal_audit.proofs.Spending.{refuses_is}
use Rattle.journal_audit.proofs.spent.SpentIds.thin.Goals as goal

pub returns-then-len-self-clause-later : goal.returns-then-len-self-clause-later
returns-then-len-self-clause-later c on id later late =
    refuses_is c.drop_over.new.ids on id later
    ∙ c.drop_over.ensures.later on id later late
    ∙ sym (refuses_is c.self.inside.ids on id later)
    ∙ ap (λ (s : Ends). refuses s on id later) c.self.view_is

pub returns-then-len-self-clause-none : goal.returns-then-len-self-clause-none
returns-then-len-self-clause-none c on id at none =
    refuses_is c.drop_over.new.ids on id at
    ∙ c.drop_over.ensures.none on id at (sym (refuses_is c.self.inside.ids on id at) ∙ ap (λ (s : Ends). refuses s on id at) c.self.view_is ∙ none)
