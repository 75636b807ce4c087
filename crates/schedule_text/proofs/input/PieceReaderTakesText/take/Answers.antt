use Rattle.schedule_text.proofs.PieceLemmas.{come_ready, comes_taken, refuses_taken}
use Rattle.schedule_text.proofs.input.PieceReaderTakesText.take.Goals as goal

pub take_all-requires : goal.take_all-requires
take_all-requires c = come_ready c.requires.come.0 c.args.self.now c.requires.come.1

pub returns-clause-refused : goal.returns-clause-refused
returns-clause-refused c = refuses_taken c.args.self.now c.take_all.new.self c.args.piece.now c.take_all.result c.take_all.ensures.taken

pub returns-clause-taken : goal.returns-clause-taken
returns-clause-taken c = comes_taken c.args.self.now c.take_all.new.self c.args.piece.now c.take_all.result c.take_all.ensures.taken
