use Rattle.std.proofs.Common.{◌≡◌, is_some, map}
use Rattle.std.specs.List.{AllByRecursion}
use Rattle.mokdrai.proofs.making.closing.Given as goal

abbrev pub invariant-loop-file : goal.invariant-loop-file
invariant-loop-file l = (map (λ one. one.log) l.all.items ≡ l.yielded) × AllByRecursion (λ one. is_some one.listeners ≡ is_some l.socket) l.all.items
