use Rattle.std.proofs.Common.{subst}
use Rattle.schedule_text.specs.Schedules.{IsSchedule}
use Rattle.schedule_text.proofs.schedule.Schedule.sessions.Goals as goal

pub returns-clause-form : goal.returns-clause-form
returns-clause-form c = subst IsSchedule c.self.view_is c.self.invariant
