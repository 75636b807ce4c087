use Rattle.std.proofs.Common.{◌≡◌, ◌<◌, ℕ, [], Some, length}
use Rattle.std.specs.Prelude.{slice_get}
use Rattle.journal_audit.specs.Tracks.{IsOpened, Tracked}
use Rattle.journal_audit.proofs.auditor.new_tracks.Given as goal

abbrev pub invariant-loop : goal.invariant-loop
invariant-loop l =
    (length l.tracks.items ≡ l.counter) × ((shard : ℕ) → shard < length l.tracks.items → (track : Tracked) × (slice_get l.tracks.items shard ≡ Some track) × IsOpened track [] l.fn.opened l.fn.first)
