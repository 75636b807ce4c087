use Rattle.std.proofs.Common.{◌≡◌, [], rules}
use Rattle.schedule_text.proofs.PieceLemmas.{come_begun}
use Rattle.schedule_text.proofs.pieces.PieceReader.new.Goals as goal

pub returns-clause-come : goal.returns-clause-come
returns-clause-come c =
    let empty : c.new-2.result.items ≡ [] = search rules in
    come_begun (record { reader = c.new.result; row = c.new-2.result }) c.new.ensures.none c.new.ensures.kept c.new.ensures.rows empty
