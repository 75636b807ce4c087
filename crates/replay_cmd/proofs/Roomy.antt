-- The files of a schedule's world always fit into a shard, and there is always a version for them to begin with.
use Rattle.std.proofs.Common.{◌≡◌, ◌≤◌, ◌+◌, ◌*◌, ℕ, List, [], length, sum_by, unwrap_or, sym, ap, inl, inr, arith}
use Rattle.wopi_model.specs.Shard.{Shard, at_moment, entries}
use Rattle.host_core.specs.Entries.{items_of}
use Rattle.host_core.specs.Value.{Book, state_of}
use Rattle.wopi_world.specs.History.{greatest}
use Rattle.wopi_world.specs.World.{World}
use Rattle.replay_cmd.specs.Begun.{opening_in}
use Rattle.replay_cmd.specs.Hosts.{StandsFor}
use Rattle.replay_cmd.specs.Limits.{kept_by, kept_in, HasSpace}
use Rattle.replay_cmd.specs.Replying.{file_in}
use Rattle.schedule_text.specs.Schedules.{most_contents, most_lines}
use Rattle.replay_cmd.specs.Starts.{AreUsedUp, LeavesTooMuch}
use Rattle.replay_cmd.proofs.Low.{low_later, greatest_low}

module _ {F : Type 0} (book : Book F) (world : World) (stands : StandsFor book world) (space : HasSpace world) where
  pub files_fit : LeavesTooMuch book → ⊥
  files_fit (inl one) =
      let short : length (unwrap_or (world.shard.files one.0).contents []) ≤ most_contents = space.within.files.short one.0 in
      let same : length (unwrap_or (file_in book one.0).contents []) ≡ length (unwrap_or (world.shard.files one.0).contents []) =
      ap (λ (s : Shard). length (unwrap_or (s.files one.0).contents [])) (sym stands.shard) in
      let long = one.1 in
      omega (arith, short, same, long)
  files_fit (inr much) =
      let count = space.fewer in
      let held : kept_in world.history ≤ most_contents * space.count = space.within.held.small in
      let small : sum_by (λ (file : List ℕ × List ℕ). length file.1) (opening_in book.begin) + sum_by kept_by (entries (items_of book.made)) ≤ most_contents * most_lines + kept_in world.history = stands.small in
      omega (arith, count, held, small, much)

  pub versions_left : AreUsedUp (state_of book.begin book.made book.time) → ⊥
  versions_left used =
      let names : List (List ℕ) = used.0 in
      let count = space.fewer in
      let low : greatest (at_moment world.shard book.time) names ≤ 2 * space.count + 1 =
      greatest_low (2 * space.count + 1) (at_moment world.shard book.time) (low_later (2 * space.count + 1) world.shard space.within.files book.time) names in
      let same : greatest (at_moment world.shard book.time) names ≡ greatest (state_of book.begin book.made book.time) names =
      ap (λ (s : Shard). greatest s names) stands.shard in
      let all = used.1 in
      omega (arith, count, low, same, all)
