use Rattle.utf7_text.proofs.Cutting.{no_reading, one_place, one_reading}
use Rattle.utf7_text.proofs.laws.bytes_have_one_reading.Goals as goal

pub returns-clause-one : goal.returns-clause-one
returns-clause-one c = one_reading

pub returns-clause-none : goal.returns-clause-none
returns-clause-none c = no_reading

pub returns-clause-one_place : goal.returns-clause-one_place
returns-clause-one_place c = one_place
