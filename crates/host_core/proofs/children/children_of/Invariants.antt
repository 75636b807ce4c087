use Rattle.std.proofs.Common.{◌≡◌, ◌++◌, length, map}
use Rattle.name_index.specs.ByBytes.{pair_of}
use Rattle.host_core.proofs.Showing.{listed, AreBelow}
use Rattle.host_core.proofs.children.children_of.Given as goal

abbrev pub invariant-pairs : goal.invariant-pairs
invariant-pairs l = (l.items.items ++ listed l.files (map pair_of l._name-iterator) ≡ listed l.files l.index) × AreBelow (length l.files) (map pair_of l._name-iterator)
