use Rattle.wopi_headers.proofs.OneReading.{one_ask}
use Rattle.wopi_headers.proofs.laws.a_request_asks_for_one_thing.Goals as goal

pub returns : goal.returns
returns c = one_ask
