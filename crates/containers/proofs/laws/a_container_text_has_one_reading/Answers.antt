use Rattle.containers.proofs.Readings.{one_reading}
use Rattle.containers.proofs.laws.a_container_text_has_one_reading.Goals as goal

pub returns : goal.returns
returns c = one_reading
