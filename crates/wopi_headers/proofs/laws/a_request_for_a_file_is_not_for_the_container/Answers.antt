use Rattle.wopi_headers.proofs.OneContainer.{no_file}
use Rattle.wopi_headers.proofs.laws.a_request_for_a_file_is_not_for_the_container.Goals as goal

pub returns : goal.returns
returns c = no_file
