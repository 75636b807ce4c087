use Rattle.std.proofs.Common.{Err, ap}
use Rattle.grid_editor.proofs.TurnLemmas.{writes_none}
use Rattle.grid_editor.proofs.editor.Editor.command.Goals as goal

pub returns-in-Err-clause-does : goal.returns-in-Err-clause-does
returns-in-Err-clause-does g c =
    writes_none _ _ _ _ _ c.args.self.now c.turn.new.editor c.args.command.now c.in-Err.fault (λ is. c.in-Err.ensures.no_write (ap Err is)) c.in-Err.ensures.does
