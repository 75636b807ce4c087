use Rattle.wopi_world.proofs.Running.{entries_run_lem}
use Rattle.wopi_world.proofs.laws.entries_run.Goals as goal

pub returns : goal.returns
returns c = entries_run_lem
