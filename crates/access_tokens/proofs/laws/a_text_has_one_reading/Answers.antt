use Rattle.access_tokens.proofs.Readings.{one_reading}
use Rattle.access_tokens.proofs.laws.a_text_has_one_reading.Goals as goal

pub returns : goal.returns
returns c = one_reading
