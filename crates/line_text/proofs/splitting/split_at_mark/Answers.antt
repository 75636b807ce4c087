use Rattle.std.proofs.Common.{sym, ◌∙◌}
use Rattle.std.proofs.lemmas.List.{take_rest}
use Rattle.line_text.proofs.Splits.{parts-some, parts-none}
use Rattle.line_text.proofs.splitting.split_at_mark.Goals as goal

pub returns-clause-some : goal.returns-clause-some
returns-clause-some c =
    rw take_rest (parts-some c.args.mark c.args.text.now c.in-Some.at (sym c.first_mark.ensures ∙ c.in-Some.is))

pub returns-in_default-clause-none : goal.returns-in_default-clause-none
returns-in_default-clause-none c = parts-none c.args.mark c.args.text.now (sym c.first_mark.ensures ∙ c.in_default.is)
