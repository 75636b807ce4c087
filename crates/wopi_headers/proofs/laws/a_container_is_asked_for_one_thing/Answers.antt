use Rattle.wopi_headers.proofs.OneContainer.{one_container, nothing_of_container, one_refusal}
use Rattle.wopi_headers.proofs.laws.a_container_is_asked_for_one_thing.Goals as goal

pub returns-clause-one : goal.returns-clause-one
returns-clause-one c = one_container

pub returns-clause-nothing : goal.returns-clause-nothing
returns-clause-nothing c = nothing_of_container

pub returns-clause-one_status : goal.returns-clause-one_status
returns-clause-one_status c = one_refusal
