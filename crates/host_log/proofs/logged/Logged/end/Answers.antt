use Rattle.std.proofs.Common.{subst}
use Rattle.host_log.specs.Logs.{HasEnded, LogView}
use Rattle.host_log.proofs.Keeping.{left_at_end}
use Rattle.host_log.proofs.logged.Logged.end.Goals as goal

pub returns : goal.returns
returns g c =
    let log = c.into_log.result in
    subst (λ (v : LogView _). HasEnded v c.self.inside.folder (g.L.Sink.held log) (g.L.Log.synced log) (g.L.Sink.write_faults log)) c.self.view_is (
    left_at_end c.self.inside (g.L.Sink.held log) (g.L.Log.synced log) (g.L.Sink.write_faults log) c.self.invariant c.into_log.ensures.told c.into_log.ensures.held c.into_log.ensures.synced
    c.into_log.ensures.faults
    )
