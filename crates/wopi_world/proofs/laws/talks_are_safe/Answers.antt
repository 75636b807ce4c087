use Rattle.wopi_world.proofs.Talking.{talk_lem}
use Rattle.wopi_world.proofs.laws.talks_are_safe.Goals as goal

pub returns : goal.returns
returns c opening opened first client heard history legal later over = talk_lem opening opened first client heard history legal.allowed later over
