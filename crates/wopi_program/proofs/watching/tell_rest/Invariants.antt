use Rattle.std.proofs.Common.{◌≡◌, ◌<◌, ℕ, Some, true, slice_get}
use Rattle.host_table.specs.Journal.{IsNearlyFullIn}
use Rattle.wopi_program.specs.Watched.{AreRightIn, TellsOf}
use Rattle.wopi_program.proofs.watching.tell_rest.Given as goal

abbrev pub invariant-shards : goal.invariant-shards
invariant-shards g l = record {
  told : TellsOf g.K.Sink.held g.K.Sink.write_faults l.fn.notes l.notes l.fn.marks l.marks;
  right : AreRightIn l.capacity l.journal.parts l.marks;
  all : (shard : ℕ) → shard < l.shard → IsNearlyFullIn l.capacity (slice_get l.journal.parts shard) → slice_get l.marks shard ≡ Some true;
}
