use Rattle.save_session.proofs.Ignoring.{stepped_leaves}
use Rattle.save_session.proofs.laws.an_ignored_input_changes_nothing.Goals as goal

pub returns-clause-back : goal.returns-clause-back
returns-clause-back c nonce session input other e = (stepped_leaves session nonce input other e).0

pub returns-clause-unchanged : goal.returns-clause-unchanged
returns-clause-unchanged c nonce session input other e = (stepped_leaves session nonce input other e).1
