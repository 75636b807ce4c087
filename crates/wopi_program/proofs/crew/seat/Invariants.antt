use Rattle.std.proofs.Common.{◌≡◌, ◌+◌, ◌≤◌, ◌++◌, length, map, vec_len, vec_capacity}
use Rattle.wopi_program.proofs.crew.seat.Given as goal

abbrev pub invariant-seats : goal.invariant-seats
invariant-seats g l = record {
  same_clocks : length l.clocks.items ≡ length l.listeners.items;
  same_passes : length l.passes.items ≡ length l.listeners.items;
  listeners : map (λ worker. worker.listener) l.workers.items ++ l.listeners.items ≡ l.initial.listeners.items;
  clocks : map (λ worker. worker.clock) l.workers.items ++ l.clocks.items ≡ l.initial.clocks.items;
  passes : map (λ worker. worker.pass) l.workers.items ++ l.passes.items ≡ l.initial.passes.items;
  room : vec_len l.workers + length l.listeners.items ≤ vec_capacity l.workers;
}

abbrev pub decreases-seats : goal.decreases-seats
decreases-seats g l = vec_len l.listeners
