use Rattle.wopi_world.proofs.Reopening.{opens_anew}
use Rattle.wopi_world.proofs.laws.restarts_open_anew.Goals as goal

pub returns : goal.returns
returns c = opens_anew
