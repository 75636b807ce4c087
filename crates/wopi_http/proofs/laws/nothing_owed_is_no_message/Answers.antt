use Rattle.wopi_http.proofs.CutLemmas.{none_from_open, only_by_400}
use Rattle.wopi_http.proofs.laws.nothing_owed_is_no_message.Goals as goal

pub returns-clause-none : goal.returns-clause-none
returns-clause-none c = none_from_open

pub returns-clause-status : goal.returns-clause-status
returns-clause-status c = only_by_400
