use Rattle.wopi_world.proofs.Naming.{apart_lem}
use Rattle.wopi_world.proofs.laws.sessions_are_apart.Goals as goal

pub returns : goal.returns
returns c = apart_lem
