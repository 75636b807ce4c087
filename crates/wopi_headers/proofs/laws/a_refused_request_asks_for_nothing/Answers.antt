use Rattle.wopi_headers.proofs.OneReading.{nothing_asked, one_status}
use Rattle.wopi_headers.proofs.laws.a_refused_request_asks_for_nothing.Goals as goal

pub returns-clause-nothing : goal.returns-clause-nothing
returns-clause-nothing c = nothing_asked

pub returns-clause-one_status : goal.returns-clause-one_status
returns-clause-one_status c = one_status
