use Rattle.std.proofs.Common.{◌≡◌, ◌≤◌, ◌+◌, ◌++◌, [], ℕ, List, length}
use Rattle.journal_text.specs.Coming.{Reaches}
use Rattle.journal_text.proofs.pieces.LineReader.take_all.Given as goal

abbrev pub invariant-rows : goal.invariant-rows
invariant-rows g l = record {
  come : (text : List ℕ) → Reaches g.R.Keeper.is_new g.R.Keeper.keeps text [] l.fn.self → Reaches g.R.Keeper.is_new g.R.Keeper.keeps (text ++ l.piece) l.rest l.self;
  count : l.self.number + length l.rest ≤ l.fn.self.number + length l.piece;
  size : l.self.size ≡ l.fn.self.size;
}

abbrev pub decreases-rows : goal.decreases-rows
decreases-rows g l = length l.rest
