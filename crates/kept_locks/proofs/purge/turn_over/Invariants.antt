use Rattle.std.proofs.Common.{◌≡◌, ◌+◌, [], length}
use Rattle.expiry_queue.specs.Chains.{spent_of}
use Rattle.kept_locks.specs.Refusals.{count_of, onto}
use Rattle.kept_locks.proofs.Parting.{Parts}
use Rattle.kept_locks.proofs.purge.turn_over.Given as goal

abbrev pub invariant-rest : goal.invariant-rest
invariant-rest l = record {
  parts : Parts l.fn.chains l.chains l.fn.chain l.rest l.kept;
  ids : onto (spent_of l.chains l.rest) (spent_of l.chains l.kept) ≡ onto (spent_of l.fn.chains l.fn.chain) [];
  used : l.chains.used + length (spent_of l.fn.chains l.fn.chain) ≡ l.fn.chains.used + length (spent_of l.chains l.rest) + length (spent_of l.chains l.kept);
  count : l.count ≡ count_of (spent_of l.chains l.kept);
  room : l.chains.used + l.chains.spare ≡ l.fn.chains.used + l.fn.chains.spare;
}

abbrev pub decreases-rest : goal.decreases-rest
decreases-rest l = length (spent_of l.chains l.rest)
