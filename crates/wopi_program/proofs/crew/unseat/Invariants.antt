use Rattle.std.proofs.Common.{◌≡◌, ◌+◌, ◌≤◌, ◌++◌, length, map, vec_len, vec_capacity}
use Rattle.wopi_program.proofs.crew.unseat.Given as goal

abbrev pub invariant-seats : goal.invariant-seats
invariant-seats g l = record {
  listeners : l.listeners.items ++ map (λ worker. worker.listener) l.workers.items ≡ map (λ worker. worker.listener) l.initial.workers.items;
  clocks : l.clocks.items ++ map (λ worker. worker.clock) l.workers.items ≡ map (λ worker. worker.clock) l.initial.workers.items;
  passes : l.passes.items ++ map (λ worker. worker.pass) l.workers.items ≡ map (λ worker. worker.pass) l.initial.workers.items;
  ends : l.ends.items ++ map (λ worker. worker.end) l.workers.items ≡ map (λ worker. worker.end) l.initial.workers.items;
  listeners_room : vec_len l.listeners + length l.workers.items ≤ vec_capacity l.listeners;
  clocks_room : vec_len l.clocks + length l.workers.items ≤ vec_capacity l.clocks;
  passes_room : vec_len l.passes + length l.workers.items + 1 ≤ vec_capacity l.passes;
  ends_room : vec_len l.ends + length l.workers.items ≤ vec_capacity l.ends;
}

abbrev pub decreases-seats : goal.decreases-seats
decreases-seats g l = vec_len l.workers
