use Rattle.std.proofs.Common.{◌≡◌, ◌∙◌, true, false, ap, arith}
use Rattle.std.specs.Prelude.{is_some}
use Rattle.host_log.specs.Lines.{LinesView, lines_view}
use Rattle.host_log.proofs.Standing.{back_sure, back_torn, back_unsynced, some_of}
use Rattle.host_log.proofs.lines.Lines.take_back.Goals as goal

pub invariant_of-self : goal.invariant_of-self
invariant_of-self g c =
    let i = c.self.inside in
    let v : LinesView = lines_view g.L.Sink.held g.L.Log.synced g.L.Sink.write_faults i in
    let fine : i.lost ≡ false = ap (λ (w : LinesView). w.lost) c.self.view_is ∙ c.requires.fine in
    let there : is_some i.standing ≡ true = ap (λ (w : LinesView). is_some w.standing) c.self.view_is ∙ c.requires.standing in
    let (one, is) = some_of i.standing there in
    let log = c.append.new.log in
    back_torn v (g.L.Sink.held log) (g.L.Log.synced log) c.replace-standing.new.dest c.replace-standing.result (g.L.Sink.write_faults log) one c.self.invariant fine is c.replace-standing.ensures.after
    (rw c.off_line.ensures at c.in-Err.ensures.prefix) c.append.ensures.synced (c.replace-standing.ensures.value ∙ is) c.append.ensures.never_falls c.in-Err.ensures.failed

pub invariant_of-self-in-Ok-sync : goal.invariant_of-self-in-Ok-sync
invariant_of-self-in-Ok-sync g c =
    let i = c.self.inside in
    let v : LinesView = lines_view g.L.Sink.held g.L.Log.synced g.L.Sink.write_faults i in
    let fine : i.lost ≡ false = ap (λ (w : LinesView). w.lost) c.self.view_is ∙ c.requires.fine in
    let there : is_some i.standing ≡ true = ap (λ (w : LinesView). is_some w.standing) c.self.view_is ∙ c.requires.standing in
    let (one, is) = some_of i.standing there in
    let between = c.append.new.log in
    let log = c.sync.new.self in
    let written = c.append.ensures.never_falls in
    let synced = c.sync.ensures.never_falls in
    back_sure v (g.L.Sink.held between) (g.L.Sink.held log) (g.L.Log.synced log) c.replace-standing.new.dest (g.L.Sink.write_faults log) one c.self.invariant fine is c.replace-standing.ensures.after
    (rw c.off_line.ensures at c.in-Ok.ensures.whole) c.sync.ensures.held c.in-Ok-sync.ensures.synced (omega (arith, written, synced))

pub invariant_of-self-in-Err-sync : goal.invariant_of-self-in-Err-sync
invariant_of-self-in-Err-sync g c =
    let i = c.self.inside in
    let v : LinesView = lines_view g.L.Sink.held g.L.Log.synced g.L.Sink.write_faults i in
    let fine : i.lost ≡ false = ap (λ (w : LinesView). w.lost) c.self.view_is ∙ c.requires.fine in
    let there : is_some i.standing ≡ true = ap (λ (w : LinesView). is_some w.standing) c.self.view_is ∙ c.requires.standing in
    let (one, is) = some_of i.standing there in
    let between = c.append.new.log in
    let log = c.sync.new.self in
    back_unsynced v (g.L.Sink.held between) (g.L.Sink.held log) (g.L.Log.synced between) (g.L.Log.synced log) c.replace-standing.new.dest c.replace-standing.result (g.L.Sink.write_faults between) (g.L.Sink.write_faults log)
    one c.self.invariant fine is c.replace-standing.ensures.after (rw c.off_line.ensures at c.in-Ok.ensures.whole) c.sync.ensures.held c.append.ensures.synced c.sync.ensures.more
    (c.replace-standing.ensures.value ∙ is) c.append.ensures.never_falls c.sync.ensures.never_falls c.in-Err-sync.ensures.failed
