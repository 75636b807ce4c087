use Rattle.std.proofs.Common.{◌≡◌}
use Rattle.containers.specs.Listed.{all_children}
use Rattle.containers.proofs.merging.gathered.Given as goal

abbrev pub invariant-loop-listing : goal.invariant-loop-listing
invariant-loop-listing l = l.children.items ≡ all_children l.yielded
