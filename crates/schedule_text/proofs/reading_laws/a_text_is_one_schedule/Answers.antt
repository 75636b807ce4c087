use Rattle.schedule_text.proofs.OneSchedule.{one_schedule}
use Rattle.schedule_text.proofs.reading_laws.a_text_is_one_schedule.Goals as goal

pub returns : goal.returns
returns c = one_schedule
