use Rattle.schedule_text.proofs.event_rows.named_read.Goals as goal

pub returns-in-Some-clause-some : goal.returns-in-Some-clause-some
returns-in-Some-clause-some c = (c.place_after.ensures c.in-Some.session).0 c.in-Some.is

pub returns-in-Some-place_after-clause-some : goal.returns-in-Some-place_after-clause-some
returns-in-Some-place_after-clause-some c = (c.place_after-2.ensures c.in-Some-place_after.session).0 c.in-Some-place_after.is

pub returns-in-Some-place_after-2-clause-some : goal.returns-in-Some-place_after-2-clause-some
returns-in-Some-place_after-2-clause-some c = (c.place_after-3.ensures c.in-Some-place_after-2.session).0 c.in-Some-place_after-2.is

pub returns-in-Some-place_after-3-clause-some : goal.returns-in-Some-place_after-3-clause-some
returns-in-Some-place_after-3-clause-some c = (c.place_after-4.ensures c.in-Some-place_after-3.session).0 c.in-Some-place_after-3.is

pub returns-in-Some-place_after-4-clause-some : goal.returns-in-Some-place_after-4-clause-some
returns-in-Some-place_after-4-clause-some c = (c.place_after-5.ensures c.in-Some-place_after-4.session).0 c.in-Some-place_after-4.is
