use Rattle.std.proofs.Common.{◌≡◌, ◌<◌, Some, length, ap, subst, sym, ◌∙◌, arith}
use Rattle.std.specs.Prelude.{slice_get, slice_set}
use Rattle.journal_audit.specs.Tracks.{Tracked}
use Rattle.journal_audit.proofs.Auditing.{turn_of}
use Rattle.journal_audit.proofs.Tracking.{got_or}
use Rattle.journal_audit.proofs.auditor.take_turn.Goals as goal

pub returns-in-Ok-clause-turns : goal.returns-in-Ok-clause-turns
returns-in-Ok-clause-turns c =
    let tracks = c.args.tracks.now.items in
    let line = c.args.line.now in
    let old : Tracked = c.index_mut.result.now in
    let new : Tracked = c.turn.new.track in
    let at : c.from.result ≡ line.shard = c.from.ensures in
    let many = c.requires.many in
    let small = c.requires.sound.shard in
    let below : c.from.result < length tracks = omega (arith, at, many, small) in
    let stood : slice_get tracks line.shard ≡ Some old = subst (λ n. slice_get tracks n ≡ Some old) at (got_or tracks c.from.result old below ∙ ap (λ (t : Tracked). Some t) (sym c.index_mut.ensures.value)) in
    turn_of tracks (slice_set tracks c.from.result new) line old new c.in-Ok.wrong small stood (ap (λ n. slice_set tracks n new) at) (omega (arith, many, small)) c.in-Ok.ensures
