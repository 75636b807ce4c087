use Rattle.std.proofs.Common.{◌≡◌, ◌≤◌, ◌-◌, ◌++◌}
use Rattle.schedule_text.specs.Generator.{sessions_from}
use Rattle.schedule_text.proofs.generating.sessions_of.Given as goal

abbrev pub invariant-sessions : goal.invariant-sessions
invariant-sessions l = record {
  made : l.sessions.items ++ sessions_from (65 - l.number) l.number ≡ sessions_from 64 1;
  within : (1 ≤ l.number) × (l.number ≤ 65);
}

abbrev pub decreases-sessions : goal.decreases-sessions
decreases-sessions l = 65 - l.number
