use Rattle.std.proofs.Common.{is_some, sym, ap, ◌∙◌}
use Rattle.line_text.proofs.Splits.{parts-more, parts-one}
use Rattle.line_text.proofs.splitting.has_mark.Goals as goal

pub returns-clause-none : goal.returns-clause-none
returns-clause-none c = λ e. parts-one c.args.mark c.args.text.now (ap is_some (sym c.first_mark.ensures) ∙ sym c.is_some.ensures ∙ e)

pub returns-clause-some : goal.returns-clause-some
returns-clause-some c = λ e. parts-more c.args.mark c.args.text.now (ap is_some (sym c.first_mark.ensures) ∙ sym c.is_some.ensures ∙ e)
