use Rattle.grid_editor.proofs.ScriptLemmas.{refuses_taken}
use Rattle.grid_editor.proofs.input.ReaderTakesText.take.Goals as goal

pub returns-clause-refused : goal.returns-clause-refused
returns-clause-refused c = refuses_taken c.args.self.now c.take_all.new.self c.args.piece.now c.take_all.result c.take_all.ensures.taken
