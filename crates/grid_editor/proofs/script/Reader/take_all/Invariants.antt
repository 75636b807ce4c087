use Rattle.std.proofs.Common.{◌≤◌, ◌+◌, ◌++◌, ℕ, List, take}
use Rattle.grid_editor.specs.Reading.{IsSoFar, room_of}
use Rattle.grid_editor.specs.Scripts.{most_lines}
use Rattle.grid_editor.proofs.script.Reader.take_all.Given as goal

abbrev pub invariant-bytes : goal.invariant-bytes
invariant-bytes l = record {
  few : l.self.lines ≤ most_lines;
  room : room_of l.self + l.byte-index ≤ room_of l.fn.self;
  so_far : (text : List ℕ) → IsSoFar text l.fn.self → IsSoFar (text ++ take l.byte-index l.piece) l.self;
}
