use Rattle.std.proofs.Common.{ap}
use Rattle.host_log.proofs.Standing.{lines_new}
use Rattle.host_log.proofs.lines.Lines.new.Goals as goal

pub invariant_of-result : goal.invariant_of-result
invariant_of-result g c = lines_new _ _ _ _ _ _ _ (ap g.L.Sink.held c.of-start.ensures) c.requires c.new.ensures (ap g.L.Sink.write_faults c.of-start.ensures)
