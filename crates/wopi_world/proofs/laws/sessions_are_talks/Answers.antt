use Rattle.wopi_world.proofs.Worlds.{session_talks}
use Rattle.wopi_world.proofs.laws.sessions_are_talks.Goals as goal

pub returns : goal.returns
returns c = session_talks
