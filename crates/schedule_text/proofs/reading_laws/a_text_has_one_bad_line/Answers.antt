use Rattle.schedule_text.proofs.OneReading.{one_bad}
use Rattle.schedule_text.proofs.reading_laws.a_text_has_one_bad_line.Goals as goal

pub returns : goal.returns
returns c = one_bad
