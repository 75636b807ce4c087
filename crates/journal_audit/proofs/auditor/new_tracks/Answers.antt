use Rattle.std.proofs.Common.{◌≡◌, ◌∷◌, ◌++◌, [], ◌<◌, ◌+◌, ℕ, List, Some, length, ap, subst, sym, ◌∙◌}
use Rattle.std.specs.Prelude.{slice_get}
use Rattle.journal_audit.specs.Tracks.{IsOpened, Tracked}
use Rattle.journal_audit.proofs.Auditing.{tracks_push}
use Rattle.journal_audit.proofs.Tracking.{longer}
use Rattle.journal_audit.proofs.auditor.new_tracks.Goals as goal

pub loop-preserved : goal.loop-preserved
loop-preserved c =
    let tracks = c.loop.tracks.items in
    let pushed : c.push.new.self.items ≡ tracks ++ c.new.result ∷ [] = c.in_ok-push.ensures.items in
    let P : List Tracked → Type 0 = λ l. (shard : ℕ) → shard < length l → (track : Tracked) × (slice_get l shard ≡ Some track) × IsOpened track [] c.args.opened c.args.first in (
      ap (λ (l : List Tracked). length l) pushed ∙ longer tracks c.new.result ∙ ap (λ n. n + 1) c.loop.invariant.0,
      subst P (sym pushed) (tracks_push tracks c.new.result c.args.opened c.args.first c.loop.invariant.1 c.new.ensures),
    )
