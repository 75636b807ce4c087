use Rattle.wopi_ends.proofs.Sourcing.{sources}
use Rattle.wopi_ends.proofs.laws.entries_come_of_messages.Goals as goal

pub returns : goal.returns
returns c desk end input left moments deeds output h = sources desk input deeds end left moments output h
