use Rattle.std.proofs.Common.{◌≡◌, refl, subst, sym}
use Rattle.journal_audit.specs.Tracks.{Knows, Tracked}
use Rattle.journal_audit.proofs.Auditing.{track_takes}
use Rattle.journal_audit.proofs.track.Track.take.Goals as goal

pub returns-in-Ok : goal.returns-in-Ok
returns-in-Ok c shard knows timed =
    let inside = c.self.inside in
    let old : Tracked = record { opened = inside.opened; first = inside.first; now = inside.now; names = inside.names; files = inside.files.items; spent = inside.spent } in
    let new : Tracked = record { opened = inside.opened; first = inside.first; now = c.args.line.now.now; names = c.take_line.new.names; files = c.take_line.new.files.items; spent = c.take_line.new.spent } in
    let view : old ≡ c.args.self.now = c.self.view_is in
    track_takes old new c.thin.new.self c.args.line.now c.in-Ok.ruled shard (subst (λ (t : Tracked). Knows t shard) (sym view) knows) timed c.thin.ensures.later c.in-Ok.ensures.takes refl refl refl
