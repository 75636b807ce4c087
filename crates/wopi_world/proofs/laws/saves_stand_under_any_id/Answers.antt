use Rattle.wopi_world.proofs.Foreign.{journal_stands}
use Rattle.wopi_world.proofs.laws.saves_stand_under_any_id.Goals as goal

pub returns : goal.returns
returns c = journal_stands
