use Rattle.std.proofs.Common.{◌≡◌, ◌+◌, ◌≤◌, ◌++◌, List, length, vec_len, vec_capacity}
use Rattle.std.specs.List.{AllByRecursion}
use Rattle.host_log.specs.Logs.{LogView}
use Rattle.wopi_program.specs.Paired.{AreAnew}
use Rattle.wopi_program.proofs.keeping.pair_all.Given as goal

abbrev pub invariant-pairs : goal.invariant-pairs
invariant-pairs g l = record {
  same_logs : length l.logs.items ≡ length l.folders.items;
  same_rooms : length l.rooms.items ≡ length l.folders.items;
  many : length l.stores.items + length l.folders.items ≡ 16;
  room : 16 ≤ vec_capacity l.stores;
  synced : AllByRecursion (λ log. g.G.Log.synced log ≡ g.G.Sink.held log) l.logs.items;
  anew : (rest : List (LogView g.row.F.Denot)) → AreAnew g.G.Sink.held g.G.Sink.write_faults l.initial.syncs_all (length l.stores.items) l.folders.items l.logs.items rest
      → AreAnew g.G.Sink.held g.G.Sink.write_faults l.initial.syncs_all 0 l.initial.folders.items l.initial.logs.items (l.stores.items ++ rest);
}

abbrev pub decreases-pairs : goal.decreases-pairs
decreases-pairs g l = vec_len l.folders
