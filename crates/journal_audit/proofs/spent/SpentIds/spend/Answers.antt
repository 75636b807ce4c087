use Rattle.std.proofs.Common.{◌&&◌, ◌||◌, ◌∙◌, ap, sym, Bool, Option}
use Rattle.std.specs.Prelude.{nat_eq}
use Rattle.wopi_model.specs.declared.locks.Spent.{Spent}
use Rattle.journal_audit.specs.Spent.{Ends, ends, refused_in, refuses}
use Rattle.journal_audit.proofs.Spending.{refuses_is}
use Rattle.journal_audit.proofs.spent.SpentIds.spend.Goals as goal

pub returns-in-Ok-clause-ok : goal.returns-in-Ok-clause-ok
returns-in-Ok-clause-ok c on id now =
    refuses_is c.note.new.ids on id now
    ∙ c.in-Ok.ensures.ok on id now
    ∙ ap (λ (o : Option Spent). (nat_eq c.args.file on && ends o id now) || refused_in c.self.inside.ids on id now) (sym c.in-Some.is)
    ∙ ap (λ (b : Bool). (nat_eq c.args.file on && ends c.args.one id now) || b) (sym (refuses_is c.self.inside.ids on id now) ∙ ap (λ (s : Ends). refuses s on id now) c.self.view_is)
