use Rattle.std.proofs.Common.{◌≡◌, ◌+◌, length}
use Rattle.wopi_model.specs.Settle.{still_spent}
use Rattle.expiry_queue.specs.Chains.{spent_of}
use Rattle.kept_locks.specs.Refusals.{Sheds, onto}
use Rattle.kept_locks.proofs.Entries.{IsOfBoth}
use Rattle.kept_locks.proofs.Parting.{Parts}
use Rattle.kept_locks.proofs.purge.sift.Given as goal

abbrev pub invariant-rest : goal.invariant-rest
invariant-rest l = record {
  parts : Parts l.fn.chains l.chains l.fn.chain l.rest l.kept;
  ids : onto (spent_of l.chains l.kept) (still_spent (spent_of l.chains l.rest) l.now) ≡ still_spent (spent_of l.fn.chains l.fn.chain) l.now;
  used : l.chains.used + length (spent_of l.fn.chains l.fn.chain) ≡ l.fn.chains.used + length (spent_of l.chains l.rest) + length (spent_of l.chains l.kept);
  room : l.chains.used + l.chains.spare ≡ l.fn.chains.used + l.fn.chains.spare;
  sheds : Sheds l.fn.index l.index l.file l.now;
  only : IsOfBoth l.index l.file (spent_of l.chains l.rest) (spent_of l.chains l.kept);
}

abbrev pub decreases-rest : goal.decreases-rest
decreases-rest l = length (spent_of l.chains l.rest)
