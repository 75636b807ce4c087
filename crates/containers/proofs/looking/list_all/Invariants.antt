use Rattle.std.proofs.Common.{◌≡◌, length}
use Rattle.host_core.specs.Caller.{KeepsTelling}
use Rattle.host_core.specs.Listing.{AreListed, LooksOn}
use Rattle.containers.proofs.looking.list_all.Given as goal

abbrev pub invariant-loop-shard : goal.invariant-loop-shard
invariant-loop-shard g l =
    let sight = g.L.Caller.sight in
    record {
      count : length l.listings.items ≡ l.shard;
      each : AreListed (sight l.lister) 0 l.listings.items;
      looks : LooksOn (sight l.fn.lister) (sight l.lister);
      telling : KeepsTelling (g.L.Caller.telling l.fn.lister) (g.L.Caller.telling l.lister) g.L.Caller.loses;
      basis : g.L.Caller.basis l.lister ≡ g.L.Caller.basis l.fn.lister;
      references : g.L.Caller.references l.lister ≡ g.L.Caller.references l.fn.lister;
    }
