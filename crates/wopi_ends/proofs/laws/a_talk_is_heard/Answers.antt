use Rattle.wopi_ends.proofs.Hearing.{talk_heard}
use Rattle.wopi_ends.proofs.laws.a_talk_is_heard.Goals as goal

pub returns : goal.returns
returns c = talk_heard
