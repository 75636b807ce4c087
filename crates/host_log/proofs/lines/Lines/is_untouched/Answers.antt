use Rattle.std.proofs.Common.{subst}
use Rattle.host_log.specs.Lines.{IsUntouched}
use Rattle.host_log.proofs.lines.Lines.is_untouched.Goals as goal

pub returns-clause-fresh : goal.returns-clause-fresh
returns-clause-fresh g c = λ new. subst IsUntouched c.self.view_is (c.self.invariant.fresh new)
