use Rattle.std.proofs.Common.{[]}
use Rattle.grid_editor.proofs.ScriptLemmas.{taken_read}
use Rattle.grid_editor.proofs.script.Script.read.Goals as goal

pub returns-in-Ok : goal.returns-in-Ok
returns-in-Ok c = c.finish.ensures c.args.text.now (c.in-Ok.ensures.taken [] c.new-reader.ensures.so_far)

pub returns-in-Err : goal.returns-in-Err
returns-in-Err c = taken_read c.args.text.now c.take_all.new.self c.in-Err.fault (c.in-Err.ensures.taken [] c.new-reader.ensures.so_far)
