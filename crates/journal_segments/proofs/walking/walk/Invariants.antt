use Rattle.std.proofs.Common.{◌≤◌, ◌+◌, length}
use Rattle.journal_segments.specs.Reading.{IsTimed, Walks}
use Rattle.journal_segments.proofs.walking.walk.Given as goal

abbrev pub invariant-rows : goal.invariant-rows
invariant-rows g l = record {
  on : Walks g.W.Watcher.has_seen l.fn.watcher l.watcher l.fn.state l.fn.text l.fn.number l.state l.left l.number;
  timed : IsTimed l.state;
  few : l.number + length l.left ≤ l.fn.number + length l.fn.text;
}

abbrev pub decreases-rows : goal.decreases-rows
decreases-rows g l = length l.left
