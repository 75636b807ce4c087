use Rattle.wopi_world.proofs.Worlds.{keeps_ids_lem}
use Rattle.wopi_world.proofs.laws.ended_is_spent.Goals as goal

pub returns : goal.returns
returns c = keeps_ids_lem
