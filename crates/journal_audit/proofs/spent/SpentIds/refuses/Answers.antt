use Rattle.std.proofs.Common.{◌∙◌, ap, sym}
use Rattle.journal_audit.specs.Spent.{Ends, refuses}
use Rattle.journal_audit.proofs.Spending.{refuses_is}
use Rattle.journal_audit.proofs.spent.SpentIds.refuses.Goals as goal

pub returns : goal.returns
returns c =
    c.is_refused.ensures
    ∙ sym (refuses_is c.self.inside.ids c.args.file c.args.id.now c.args.now)
    ∙ ap (λ (s : Ends). refuses s c.args.file c.args.id.now c.args.now) c.self.view_is
