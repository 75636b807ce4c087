use Rattle.std.proofs.Common.{◌≡◌, ◌^◌, ◌-◌, min, take}
use Rattle.std.specs.Str.Parse.{digits_value}
use Rattle.grid_formulas.proofs.number.capped.Given as goal

abbrev pub invariant-loop-byte : goal.invariant-loop-byte
invariant-loop-byte l = l.total ≡ min (digits_value 10 (take l.byte-index l.bytes)) (2 ^ 128 - 1)
