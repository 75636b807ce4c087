use Rattle.schedule_text.proofs.PieceLemmas.{come_over, row_refused, row_taken}
use Rattle.std.proofs.Common.{◌∷◌}
use Rattle.schedule_text.proofs.pieces.PieceReader.take_row.Goals as goal

pub returns-in-Ok-clause-taken : goal.returns-in-Ok-clause-taken
returns-in-Ok-clause-taken c =
    row_taken c.args.part.now c.args.self.now c.lengthen.new.self c.end_row.new.self c.end_row.result c.requires.line c.in-Ok.ensures.ok c.end_row.ensures.ok

pub returns-in-Ok-clause-refused : goal.returns-in-Ok-clause-refused
returns-in-Ok-clause-refused c =
    row_refused c.args.part.now c.args.self.now c.lengthen.new.self c.end_row.result c.requires.line c.in-Ok.ensures.ok c.end_row.ensures.refused

pub returns-in-Err-clause-refused : goal.returns-in-Err-clause-refused
returns-in-Err-clause-refused c = λ text behind come.
    come_over text c.args.part.now (10 ∷ behind) c.args.self.now c.in-Err.fault c.requires.line come c.in-Err.ensures.refused
