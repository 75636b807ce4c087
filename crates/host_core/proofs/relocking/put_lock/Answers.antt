use Rattle.std.proofs.Common.{inr, None, Some, List, length, ap, ◌∙◌}
use Rattle.kept_locks.specs.Locks.{Standing}
use Rattle.host_core.specs.Whole.{standing_at}
use Rattle.host_core.proofs.Regains.{lock_began, lock_here}
use Rattle.host_core.proofs.Turning.{long_set, stands_beside}
use Rattle.host_core.proofs.relocking.put_lock.Goals as goal

pub set-requires-clause-since : goal.set-requires-clause-since
set-requires-clause-since c = inr c.requires.since

pub returns-clause-here : goal.returns-clause-here
returns-clause-here c =
    ap (λ (l : List Standing). standing_at l c.args.number) c.set.ensures.files ∙ lock_here c.args.locks.now.files c.args.number c.args.lock c.requires.number c.requires.live

pub returns-clause-others : goal.returns-clause-others
returns-clause-others c = λ other differ.
    ap (λ (l : List Standing). standing_at l other) c.set.ensures.files ∙ stands_beside c.args.locks.now.files c.args.number (Some c.args.lock) None 0 other differ

pub returns-clause-long : goal.returns-clause-long
returns-clause-long c = ap (λ (l : List Standing). length l) c.set.ensures.files ∙ long_set c.args.locks.now.files c.args.number (Some c.args.lock) None 0

pub returns-clause-began : goal.returns-clause-began
returns-clause-began c =
    lock_began c.args.locks.now.files c.set.new.self.files c.args.number c.args.lock (standing_at c.args.locks.now.files c.args.number).spent c.requires.since c.requires.number
    (returns-clause-long c) (returns-clause-here c) (returns-clause-others c)
