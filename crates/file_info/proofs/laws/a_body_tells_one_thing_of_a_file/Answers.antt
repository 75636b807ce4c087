use Rattle.file_info.proofs.Readings.{one_info, info_is_read}
use Rattle.file_info.proofs.laws.a_body_tells_one_thing_of_a_file.Goals as goal

pub returns-clause-one : goal.returns-clause-one
returns-clause-one c = one_info

pub returns-clause-read : goal.returns-clause-read
returns-clause-read c = info_is_read
