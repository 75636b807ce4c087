use Rattle.std.proofs.Common.{◌≡◌, ◌+◌, ◌<◌, ◌≤◌, ◌++◌, List, length, vec_len, vec_capacity}
use Rattle.std.specs.Vec.Iter.{into_iter_items, into_iter_len}
use Rattle.std.specs.Prelude.{IsSomeAnd}
use Rattle.std.specs.List.{AllByRecursion}
use Rattle.turn_lock.specs.Places.{total}
use Rattle.host_core.specs.Value.{Book, InMemory}
use Rattle.host_table.specs.Close.{capacity_of, AreTaken}
use Rattle.host_table.specs.Journal.{all_spots}
use Rattle.host_table.proofs.closing.take_apart.Given as goal

abbrev pub invariant-loop-held : goal.invariant-loop-held
invariant-loop-held g l = let F = g.row.F.Denot in let f = g.F.Folder in record {
  len : into_iter_len l.rest ≡ length (into_iter_items l.rest);
  count : l.number + into_iter_len l.rest ≤ 16;
  folders : (vec_len l.folders ≡ l.number) × (16 ≤ vec_capacity l.folders);
  pasts : (vec_len l.pasts ≡ l.number) × (16 ≤ vec_capacity l.pasts);
  room : vec_len l.spots + total capacity_of (into_iter_items l.rest) ≤ vec_capacity l.spots;
  few : AllByRecursion (λ book. IsSomeAnd book.limits.calls (λ calls. calls < 4294967296)) (into_iter_items l.rest);
  spots : l.spots.items ≡ all_spots 0 l.pasts.items;
  taken : (done : List (Book (InMemory F))) × (l.fn.shards.items ≡ done ++ into_iter_items l.rest) × AreTaken f.files f.faults done l.pasts.items l.folders.items;
}

abbrev pub decreases-loop-held : goal.decreases-loop-held
decreases-loop-held g l = into_iter_len l.rest
