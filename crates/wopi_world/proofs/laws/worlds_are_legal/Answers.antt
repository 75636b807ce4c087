use Rattle.wopi_world.proofs.Fairness.{legal_lem, left_lem, next_lem}
use Rattle.wopi_world.proofs.laws.worlds_are_legal.Goals as goal

pub returns-clause-legal : goal.returns-clause-legal
returns-clause-legal c = legal_lem

pub returns-clause-leaves : goal.returns-clause-leaves
returns-clause-leaves c setting events = (left_lem setting events).is_after

pub returns-clause-next : goal.returns-clause-next
returns-clause-next c = next_lem
