use Rattle.std.proofs.Common.{sym, ◌∙◌}
use Rattle.std.proofs.lemmas.List.{take_rest}
use Rattle.access_tokens.proofs.MarkLemmas.{parted, unparted}
use Rattle.access_tokens.proofs.marks.split_at.Goals as goal

pub returns-clause-some : goal.returns-clause-some
returns-clause-some c =
    rw take_rest (parted c.args.mark c.args.text.now c.in-Some.at (sym c.first.ensures ∙ c.in-Some.is))

pub returns-in_default-clause-none : goal.returns-in_default-clause-none
returns-in_default-clause-none c = unparted c.args.mark c.args.text.now (sym c.first.ensures ∙ c.in_default.is)
