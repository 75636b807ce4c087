use Rattle.std.proofs.Common.{◌+◌, ◌≤◌, ◌++◌, List, length, vec_len, vec_capacity}
use Rattle.wopi_program.specs.Paired.{AreParted}
use Rattle.wopi_program.proofs.keeping.part_all.Given as goal

abbrev pub invariant-stores : goal.invariant-stores
invariant-stores g l = record {
  folders_room : length l.folders.items + length l.stores.items ≤ vec_capacity l.folders;
  logs_room : length l.logs.items + length l.stores.items ≤ vec_capacity l.logs;
  parted : (folders : List g.row.F.Denot) (logs : List g.row.G.Denot) → AreParted g.G.Sink.held g.G.Log.synced g.G.Sink.write_faults l.stores.items folders logs
      → AreParted g.G.Sink.held g.G.Log.synced g.G.Sink.write_faults l.initial.stores.items (l.folders.items ++ folders) (l.logs.items ++ logs);
}

abbrev pub decreases-stores : goal.decreases-stores
decreases-stores g l = vec_len l.stores
