use Rattle.std.proofs.Common.{◌≤◌, ◌+◌, ◌++◌, [], ℕ, List, length}
use Rattle.schedule_text.specs.Pieces.{HasCome, MayTakeLine, room_of}
use Rattle.schedule_text.proofs.pieces.PieceReader.take_all.Given as goal

abbrev pub invariant-rows : goal.invariant-rows
invariant-rows l = record {
  come : (text : List ℕ) → HasCome text [] l.fn.self → HasCome (text ++ l.piece) l.rest l.self;
  ready : MayTakeLine l.self.reader;
  room : room_of l.self + length l.piece ≤ room_of l.fn.self + length l.rest;
}

abbrev pub decreases-rows : goal.decreases-rows
decreases-rows l = length l.rest
