use Rattle.wopi_world.specs.World.{first_shard, run}
use Rattle.wopi_world.proofs.Fairness.{fair}
use Rattle.wopi_world.proofs.OneRun.{one_run_lem}
use Rattle.wopi_world.proofs.laws.between_restarts.Goals as goal

pub returns : goal.returns
returns c setting events s client valid own =
    let f = fair setting events valid in one_run_lem client (first_shard setting) (run setting events).history f.allowed f.spaced
