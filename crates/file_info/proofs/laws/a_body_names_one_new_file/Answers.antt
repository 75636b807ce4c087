use Rattle.file_info.proofs.Readings.{one_relative, relative_is_read}
use Rattle.file_info.proofs.laws.a_body_names_one_new_file.Goals as goal

pub returns-clause-one : goal.returns-clause-one
returns-clause-one c = one_relative

pub returns-clause-read : goal.returns-clause-read
returns-clause-read c = relative_is_read
