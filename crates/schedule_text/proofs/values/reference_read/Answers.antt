use Rattle.schedule_text.proofs.values.reference_read.Goals as goal

pub returns-in-Some-clause-some : goal.returns-in-Some-clause-some
returns-in-Some-clause-some c = (c.counted_read.ensures c.in-Some.number).0 c.in-Some.is

pub returns-clause-some : goal.returns-clause-some
returns-clause-some c = (c.last_read.ensures c.in-Some-last_read.number).0 c.in-Some-last_read.is
