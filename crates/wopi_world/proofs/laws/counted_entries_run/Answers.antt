use Rattle.wopi_world.proofs.Running.{counted_run_lem}
use Rattle.wopi_world.proofs.laws.counted_entries_run.Goals as goal

pub returns : goal.returns
returns c = counted_run_lem
