use Rattle.std.proofs.Common.{◌≡◌, ◌++◌, List, map, length}
use Rattle.std.specs.Vec.Iter.{into_iter_items, into_iter_len}
use Rattle.std.specs.List.{AllByRecursion}
use Rattle.host_table.specs.Passes.{PassView, lock_of, locks_of}
use Rattle.host_table.specs.Close.{IsJoinOf}
use Rattle.host_table.proofs.closing.join_all.Given as goal

abbrev pub invariant-loop-pass : goal.invariant-loop-pass
invariant-loop-pass g l = let F = g.row.F.Denot in record {
  len : into_iter_len l.rest ≡ length (into_iter_items l.rest);
  locks : map lock_of l.seats.items ≡ l.locks.items;
  rest_locks : AllByRecursion (λ pass. locks_of pass ≡ l.locks.items) (into_iter_items l.rest);
  joined : (done : List (PassView F)) × (l.fn.passes.items ≡ done ++ into_iter_items l.rest) × IsJoinOf done l.seats.items;
}

abbrev pub decreases-loop-pass : goal.decreases-loop-pass
decreases-loop-pass g l = into_iter_len l.rest
