use Rattle.wopi_ends.proofs.Hearing.{drive_heard}
use Rattle.wopi_ends.proofs.laws.a_drive_is_heard.Goals as goal

pub returns : goal.returns
returns c = drive_heard
