use Rattle.std.proofs.Common.{◌≡◌, ◌∙◌, false, None, Some, ap, subst, arith, rules}
use Rattle.host_core.specs.Entries.{ruled, ruled_as}
use Rattle.std.specs.Io.KnownBytes.{Appends}
use Rattle.host_log.specs.Lines.{LinesView, lines_view}
use Rattle.host_log.specs.Rows.{entry_text, is_synced}
use Rattle.host_log.proofs.Standing.{lines_idle, lines_sure, lines_torn, lines_unsynced}
use Rattle.host_log.proofs.Texts.{entry_as}
use Rattle.host_log.proofs.lines.Lines.add.Goals as goal

pub invariant_of-self : goal.invariant_of-self
invariant_of-self g c =
    let i = c.self.inside in
    let v : LinesView = lines_view g.L.Sink.held g.L.Log.synced g.L.Sink.write_faults i in
    let fine : i.lost ≡ false = ap (λ (w : LinesView). w.lost) c.self.view_is ∙ c.requires.fine in
    let free : i.standing ≡ None = ap (λ (w : LinesView). w.standing) c.self.view_is ∙ c.requires.free in
    let log = c.write_entry.new.log in
    lines_torn v (g.L.Sink.held log) (g.L.Log.synced log) (Some c.of.result) (g.L.Sink.write_faults log) (ruled c.args.ruling.now c.args.begun.now) c.self.invariant fine free
    c.in-Err.ensures.bytes c.write_entry.ensures.synced (ap Some c.of.ensures) c.write_entry.ensures.never_falls c.in-Err.ensures.failed

pub invariant_of-self-then-not-is_synced : goal.invariant_of-self-then-not-is_synced
invariant_of-self-then-not-is_synced g c =
    let i = c.self.inside in
    let v : LinesView = lines_view g.L.Sink.held g.L.Log.synced g.L.Sink.write_faults i in
    let fine : i.lost ≡ false = ap (λ (w : LinesView). w.lost) c.self.view_is ∙ c.requires.fine in
    let free : i.standing ≡ None = ap (λ (w : LinesView). w.standing) c.self.view_is ∙ c.requires.free in
    let log = c.write_entry.new.log in
    let one = ruled_as c.args.is_told c.args.ruling.now c.args.begun.now in
    let text = entry_as c.args.is_told c.args.ruling.now c.args.begun.now in
    let grew : Appends v.held (g.L.Sink.held log) (entry_text one) = subst (Appends v.held (g.L.Sink.held log)) text c.in-Ok.ensures.bytes in
    let idle : is_synced i.syncs_all one ≡ false = search rules in
    lines_idle v (g.L.Sink.held log) (g.L.Log.synced log) c.keep_note.new.told (g.L.Sink.write_faults log) one c.self.invariant fine free
    grew c.write_entry.ensures.synced idle c.keep_note.ensures c.write_entry.ensures.never_falls

pub invariant_of-self-in-Ok-sync : goal.invariant_of-self-in-Ok-sync
invariant_of-self-in-Ok-sync g c =
    let i = c.self.inside in
    let v : LinesView = lines_view g.L.Sink.held g.L.Log.synced g.L.Sink.write_faults i in
    let fine : i.lost ≡ false = ap (λ (w : LinesView). w.lost) c.self.view_is ∙ c.requires.fine in
    let free : i.standing ≡ None = ap (λ (w : LinesView). w.standing) c.self.view_is ∙ c.requires.free in
    let between = c.write_entry.new.log in
    let log = c.sync.new.self in
    let written = c.write_entry.ensures.never_falls in
    let synced = c.sync.ensures.never_falls in
    let one = ruled_as c.args.is_told c.args.ruling.now c.args.begun.now in
    let text = entry_as c.args.is_told c.args.ruling.now c.args.begun.now in
    let grew : Appends v.held (g.L.Sink.held between) (entry_text one) = subst (Appends v.held (g.L.Sink.held between)) text c.in-Ok.ensures.bytes in
    lines_sure v (g.L.Sink.held between) (g.L.Sink.held log) (g.L.Log.synced log) c.keep_note-in-Ok-sync.new.told (g.L.Sink.write_faults log)
    one c.self.invariant fine free grew c.sync.ensures.held c.in-Ok-sync.ensures.synced
    c.keep_note-in-Ok-sync.ensures (omega (arith, written, synced))

pub invariant_of-self-in-Err-sync : goal.invariant_of-self-in-Err-sync
invariant_of-self-in-Err-sync g c =
    let i = c.self.inside in
    let v : LinesView = lines_view g.L.Sink.held g.L.Log.synced g.L.Sink.write_faults i in
    let fine : i.lost ≡ false = ap (λ (w : LinesView). w.lost) c.self.view_is ∙ c.requires.fine in
    let free : i.standing ≡ None = ap (λ (w : LinesView). w.standing) c.self.view_is ∙ c.requires.free in
    let between = c.write_entry.new.log in
    let log = c.sync.new.self in
    lines_unsynced v (g.L.Sink.held between) (g.L.Sink.held log) (g.L.Log.synced between) (g.L.Log.synced log) (Some c.of-in-Err-sync.result) (g.L.Sink.write_faults between) (g.L.Sink.write_faults log)
    (ruled c.args.ruling.now c.args.begun.now) c.self.invariant fine free c.in-Ok.ensures.bytes c.sync.ensures.held c.write_entry.ensures.synced c.sync.ensures.more
    (ap Some c.of-in-Err-sync.ensures) c.write_entry.ensures.never_falls c.sync.ensures.never_falls c.in-Err-sync.ensures.failed
