use Rattle.std.proofs.Common.{◌≡◌, ◌∙◌, true, ap}
use Rattle.host_log.specs.Begins.{begin_in}
use Rattle.host_log.specs.Lines.{LinesView, lines_view}
use Rattle.host_log.proofs.Standing.{begun_sure, begun_torn}
use Rattle.host_log.proofs.lines.Lines.begin_with.Goals as goal

pub invariant_of-self : goal.invariant_of-self
invariant_of-self g c =
    let i = c.self.inside in
    let v : LinesView = lines_view g.L.Sink.held g.L.Log.synced g.L.Sink.write_faults i in
    let untouched : i.untouched ≡ true = ap (λ (w : LinesView). w.untouched) c.self.view_is ∙ c.requires in
    let log = c.keep_start.new.log in
    begun_sure v (g.L.Sink.held log) (g.L.Log.synced log) c.of.result (g.L.Sink.write_faults log) c.args.shard (begin_in c.args.start.now) c.self.invariant untouched
    c.in-Ok.ensures.bytes c.in-Ok.ensures.synced c.of.ensures c.keep_start.ensures.never_falls

pub invariant_of-self-in-Err : goal.invariant_of-self-in-Err
invariant_of-self-in-Err g c =
    let i = c.self.inside in
    let v : LinesView = lines_view g.L.Sink.held g.L.Log.synced g.L.Sink.write_faults i in
    let untouched : i.untouched ≡ true = ap (λ (w : LinesView). w.untouched) c.self.view_is ∙ c.requires in
    let log = c.keep_start.new.log in
    begun_torn v (g.L.Sink.held log) (g.L.Log.synced log) (g.L.Sink.write_faults log) c.args.shard (begin_in c.args.start.now) c.self.invariant untouched
    c.in-Err.ensures.bytes c.keep_start.ensures.more c.keep_start.ensures.never_falls c.in-Err.ensures.failed
