use Rattle.std.proofs.Common.{◌≡◌, ◌++◌, flat_map, drop}
use Rattle.std.specs.Int.{w16, to_be_bytes}
use Rattle.utf7_text.proofs.shift.bytes_of_units.Given as goal

abbrev pub invariant-loop-unit : goal.invariant-loop-unit
invariant-loop-unit l = l.bytes.items ++ flat_map (to_be_bytes w16) (drop l.unit-index l.units) ≡ flat_map (to_be_bytes w16) l.units
