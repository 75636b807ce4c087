use Rattle.std.proofs.Common.{◌≡◌, ◌<◌, Some, length, ap, subst, sym, ◌∙◌, arith}
use Rattle.std.specs.Prelude.{slice_get, slice_set}
use Rattle.wopi_text.specs.FileName.{shard_of}
use Rattle.journal_audit.specs.Tracks.{Tracked}
use Rattle.journal_audit.proofs.Auditing.{opened_track}
use Rattle.journal_audit.proofs.Tracking.{got_or}
use Rattle.journal_audit.proofs.auditor.add_opening.Goals as goal

pub returns-in-Ok-clause-opened : goal.returns-in-Ok-clause-opened
returns-in-Ok-clause-opened c files contents opened first long are =
    let tracks = c.args.tracks.now.items in
    let name = c.args.name.now in
    let old : Tracked = c.index_mut.result.now in
    let new : Tracked = c.add_file.new.self in
    let at : c.from.result ≡ shard_of name = c.from.ensures ∙ c.shard.ensures in
    let many = c.requires in
    let below : c.from.result < length tracks = omega (arith, at, many) in
    let stood : slice_get tracks (shard_of name) ≡ Some old = subst (λ n. slice_get tracks n ≡ Some old) at (got_or tracks c.from.result old below ∙ ap (λ (t : Tracked). Some t) (sym c.index_mut.ensures.value)) in
    opened_track tracks (slice_set tracks c.from.result new) files name contents old new opened first are stood (ap (λ n. slice_set tracks n new) at) (omega (arith, many))
    (λ opening is. c.in-Ok.ensures opening contents opened first long is)
