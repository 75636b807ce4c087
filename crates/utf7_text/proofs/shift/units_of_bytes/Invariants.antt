use Rattle.std.proofs.Common.{◌≡◌, ◌++◌, ◌<◌, ◌%◌, ◌^◌, length, flat_map}
use Rattle.std.specs.Int.{w16, to_be_bytes}
use Rattle.std.specs.List.{AllByRecursion}
use Rattle.utf7_text.proofs.shift.units_of_bytes.Given as goal

abbrev pub invariant-loop-pair : goal.invariant-loop-pair
invariant-loop-pair l = record {
  pairs : l.pair-iterator.size ≡ 2;
  even : length l.pair-iterator.rest.now % 2 ≡ 0;
  bytes : flat_map (to_be_bytes w16) l.units.items ++ l.pair-iterator.rest.now ≡ l.bytes;
  small : AllByRecursion (λ unit. unit < 2 ^ 16) l.units.items;
}
