use Rattle.schedule_text.proofs.OneReading.{no_both}
use Rattle.schedule_text.proofs.reading_laws.a_schedule_has_no_bad_line.Goals as goal

pub returns : goal.returns
returns c = no_both
