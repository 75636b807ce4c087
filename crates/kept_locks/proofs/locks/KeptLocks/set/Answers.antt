use Rattle.std.proofs.Common.{◌+◌, length, ap, ◌∙◌, arith}
use Rattle.std.specs.Prelude.{slice_get}
use Rattle.kept_locks.specs.Locks.{Locks, held_in, ids_in}
use Rattle.kept_locks.proofs.Counted.{tied_short}
use Rattle.kept_locks.proofs.Latest.{still_chained}
use Rattle.kept_locks.proofs.Counting.{taken_is}
use Rattle.kept_locks.proofs.locks.KeptLocks.set.Goals as goal

pub returns-clause-chains : goal.returns-clause-chains
returns-clause-chains c = still_chained c.set_lock.new.chains c.set_lock.new.places.items

pub returns-clause-short : goal.returns-clause-short
returns-clause-short c = tied_short c.set_lock.new.places.items c.set_lock.new.queue c.set_lock.new.chains c.set_lock.new.index c.set_lock.ensures.tied

pub returns-clause-taken : goal.returns-clause-taken
returns-clause-taken c =
    let inside = c.self.inside in
    let before = ap (λ (l : Locks). held_in l.files + ids_in l.chains) c.self.view_is in
    let was = taken_is inside.places.items inside.chains (length inside.queue.waiting) c.self.invariant.held c.self.invariant.used in
    let now = taken_is c.set_lock.new.places.items c.set_lock.new.chains (length c.set_lock.new.queue.waiting) c.set_lock.ensures.tied.held c.set_lock.ensures.tied.used in
    let taken = c.set_lock.ensures.taken in
    omega (arith, before, was, now, taken)

pub returns-clause-beside : goal.returns-clause-beside
returns-clause-beside c = λ other differs. c.set_lock.ensures.beside other differs ∙ ap (λ (l : Locks). slice_get l.chains other) c.self.view_is
