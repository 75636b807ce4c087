use Rattle.std.proofs.Common.{◌≡◌, ◌∙◌, false, None, Some, ap, refl}
use Rattle.host_core.specs.Entries.{ruled, ruled_as}
use Rattle.host_log.specs.Lines.{LinesView, lines_view}
use Rattle.host_log.proofs.Standing.{lines_settled}
use Rattle.host_log.proofs.Texts.{entry_as}
use Rattle.host_log.proofs.lines.Lines.settle.Goals as goal

pub invariant_of-self : goal.invariant_of-self
invariant_of-self g c =
    let i = c.self.inside in
    let v : LinesView = lines_view g.L.Sink.held g.L.Log.synced g.L.Sink.write_faults i in
    let one = ruled c.args.ruling.now c.args.begun.now in
    let fine : i.lost ≡ false = ap (λ (w : LinesView). w.lost) c.self.view_is ∙ c.requires.fine in
    let is : i.standing ≡ Some one = ap (λ (w : LinesView). w.standing) c.self.view_is ∙ c.requires.standing in
    let same = ruled_as c.args.is_told c.args.ruling.now c.args.begun.now in
    lines_settled v c.keep_note.new.told None one same c.self.invariant fine is refl (entry_as c.args.is_told c.args.ruling.now c.args.begun.now) c.keep_note.ensures
