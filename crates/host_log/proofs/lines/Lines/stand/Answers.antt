use Rattle.std.proofs.Common.{◌≡◌, ◌∙◌, false, None, Some, ap, sym, arith}
use Rattle.wopi_model.specs.declared.calls.Ruling.{Ruling}
use Rattle.host_core.specs.Entries.{accepted_contents, ruled}
use Rattle.host_log.specs.Lines.{LinesView, lines_view}
use Rattle.host_log.proofs.Standing.{lines_stand, lines_torn, lines_unsynced}
use Rattle.host_log.proofs.lines.Lines.stand.Goals as goal

pub write_entry-requires : goal.write_entry-requires
write_entry-requires g c = c.requires.contents ∙ ap (λ (r : Ruling). accepted_contents (ruled r c.args.begun.now)) (sym c.accepted-ruling.ensures)

pub invariant_of-self : goal.invariant_of-self
invariant_of-self g c =
    let i = c.self.inside in
    let v : LinesView = lines_view g.L.Sink.held g.L.Log.synced g.L.Sink.write_faults i in
    let fine : i.lost ≡ false = ap (λ (w : LinesView). w.lost) c.self.view_is ∙ c.requires.fine in
    let free : i.standing ≡ None = ap (λ (w : LinesView). w.standing) c.self.view_is ∙ c.requires.free in
    let log = c.write_entry.new.log in
    lines_torn v (g.L.Sink.held log) (g.L.Log.synced log) (Some c.of.result) (g.L.Sink.write_faults log) (ruled c.accepted-ruling.result c.args.begun.now) c.self.invariant fine free
    c.in-Err.ensures.bytes c.write_entry.ensures.synced (ap Some c.of.ensures) c.write_entry.ensures.never_falls c.in-Err.ensures.failed

pub invariant_of-self-in-Err-sync : goal.invariant_of-self-in-Err-sync
invariant_of-self-in-Err-sync g c =
    let i = c.self.inside in
    let v : LinesView = lines_view g.L.Sink.held g.L.Log.synced g.L.Sink.write_faults i in
    let fine : i.lost ≡ false = ap (λ (w : LinesView). w.lost) c.self.view_is ∙ c.requires.fine in
    let free : i.standing ≡ None = ap (λ (w : LinesView). w.standing) c.self.view_is ∙ c.requires.free in
    let between = c.write_entry.new.log in
    let log = c.sync.new.self in
    lines_unsynced v (g.L.Sink.held between) (g.L.Sink.held log) (g.L.Log.synced between) (g.L.Log.synced log) (Some c.of-in-Err-sync.result) (g.L.Sink.write_faults between) (g.L.Sink.write_faults log)
    (ruled c.accepted-ruling.result c.args.begun.now) c.self.invariant fine free c.in-Ok.ensures.bytes c.sync.ensures.held c.write_entry.ensures.synced c.sync.ensures.more
    (ap Some c.of-in-Err-sync.ensures) c.write_entry.ensures.never_falls c.sync.ensures.never_falls c.in-Err-sync.ensures.failed

pub invariant_of-self-2 : goal.invariant_of-self-2
invariant_of-self-2 g c =
    let i = c.self.inside in
    let v : LinesView = lines_view g.L.Sink.held g.L.Log.synced g.L.Sink.write_faults i in
    let fine : i.lost ≡ false = ap (λ (w : LinesView). w.lost) c.self.view_is ∙ c.requires.fine in
    let free : i.standing ≡ None = ap (λ (w : LinesView). w.standing) c.self.view_is ∙ c.requires.free in
    let between = c.write_entry.new.log in
    let log = c.sync.new.self in
    let written = c.write_entry.ensures.never_falls in
    let synced = c.sync.ensures.never_falls in
    lines_stand v (g.L.Sink.held between) (g.L.Sink.held log) (g.L.Log.synced log) (Some c.of-2.result) (g.L.Sink.write_faults log)
    (ruled c.accepted-ruling.result c.args.begun.now) c.self.invariant fine free c.in-Ok.ensures.bytes c.sync.ensures.held c.in-Ok-sync.ensures.synced
    (ap Some c.of-2.ensures) (omega (arith, written, synced))
