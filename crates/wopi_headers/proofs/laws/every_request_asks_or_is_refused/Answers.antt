use Rattle.wopi_headers.proofs.OneReading.{never_neither}
use Rattle.wopi_headers.proofs.laws.every_request_asks_or_is_refused.Goals as goal

pub returns : goal.returns
returns c = never_neither
