use Rattle.std.proofs.Common.{subst}
use Rattle.host_log.specs.Lines.{AreLines}
use Rattle.host_log.proofs.lines.Lines.into_log.Goals as goal

pub returns-clause-told : goal.returns-clause-told
returns-clause-told g c = subst AreLines c.self.view_is c.self.invariant
