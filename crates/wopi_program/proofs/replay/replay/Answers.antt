use Rattle.std.proofs.Common.{refl}
use Rattle.wopi_program.proofs.replay.replay.Goals as goal

pub returns-in-Input-clause-replays : goal.returns-in-Input-clause-replays
returns-in-Input-clause-replays g c = rw c.in-Input.is c.replay_input.ensures.replays

pub returns-in-Generated-clause-replays : goal.returns-in-Generated-clause-replays
returns-in-Generated-clause-replays g c = rw c.in-Generated.is (refl, c.replay_generated.ensures.replays)
