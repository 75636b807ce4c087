use Rattle.std.proofs.Common.{◌≡◌, ◌≤◌, ◌-◌, ◌*◌, ◌++◌}
use Rattle.schedule_text.specs.Generator.{events_drawn}
use Rattle.schedule_text.proofs.generating.events_of.Given as goal

abbrev pub invariant-events : goal.invariant-events
invariant-events l = record {
  drawn : l.events.items ++ events_drawn (l.count - l.i) l.i l.count l.x l.moment ≡ events_drawn l.count 0 l.count l.seed 0;
  early : l.i ≤ l.count;
  soon : l.moment ≤ 400000 * l.i;
}

abbrev pub decreases-events : goal.decreases-events
decreases-events l = l.count - l.i
