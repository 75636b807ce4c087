use Rattle.std.proofs.Common.{◌+◌, length, ap, subst, arith}
use Rattle.kept_locks.specs.Locks.{Locks, OnlyDue, held_in, ids_in}
use Rattle.kept_locks.specs.Ties.{chains_in, standings}
use Rattle.kept_locks.proofs.Counted.{tied_short}
use Rattle.kept_locks.proofs.Counting.{taken_is}
use Rattle.kept_locks.proofs.Latest.{still_chained}
use Rattle.kept_locks.proofs.locks.KeptLocks.settle.Goals as goal

pub returns-clause-chains : goal.returns-clause-chains
returns-clause-chains c = still_chained c.end_all_due.new.chains c.end_all_due.new.places.items

pub returns-clause-short : goal.returns-clause-short
returns-clause-short c = tied_short c.end_all_due.new.places.items c.end_all_due.new.queue c.end_all_due.new.chains c.end_all_due.new.index c.end_all_due.ensures.tied

pub returns-clause-taken : goal.returns-clause-taken
returns-clause-taken c =
    let inside = c.self.inside in
    let before = ap (λ (l : Locks). held_in l.files + ids_in l.chains) c.self.view_is in
    let was = taken_is inside.places.items inside.chains (length inside.queue.waiting) c.self.invariant.held c.self.invariant.used in
    let now = taken_is c.end_all_due.new.places.items c.end_all_due.new.chains (length c.end_all_due.new.queue.waiting) c.end_all_due.ensures.tied.held c.end_all_due.ensures.tied.used in
    let taken = c.end_all_due.ensures.taken in
    omega (arith, before, was, now, taken)

pub returns-clause-due : goal.returns-clause-due
returns-clause-due c =
    subst (λ (l : Locks). OnlyDue c.args.now l.files (standings c.end_all_due.new.chains c.end_all_due.new.places.items) l.chains (chains_in c.end_all_due.new.chains c.end_all_due.new.places.items)) c.self.view_is c.end_all_due.ensures.due
