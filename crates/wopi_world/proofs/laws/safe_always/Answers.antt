use Rattle.wopi_world.proofs.Worlds.{safe_lem}
use Rattle.wopi_world.proofs.laws.safe_always.Goals as goal

pub returns : goal.returns
returns c = safe_lem
