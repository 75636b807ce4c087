use Rattle.schedule_text.proofs.event_rows.timed_read.Goals as goal

pub returns-in-Some-moment_after-clause-some : goal.returns-in-Some-moment_after-clause-some
returns-in-Some-moment_after-clause-some c = (c.moment_after.ensures c.in-Some-moment_after.moment).0 c.in-Some-moment_after.is

pub returns-in-Some-moment_after-2-clause-some : goal.returns-in-Some-moment_after-2-clause-some
returns-in-Some-moment_after-2-clause-some c = (c.moment_after-2.ensures c.in-Some-moment_after-2.moment).0 c.in-Some-moment_after-2.is
