use Rattle.std.proofs.Common.{◌<◌, length, rules}
use Rattle.grid_editor.proofs.ScriptLemmas.{finish_ended, finish_bad}
use Rattle.grid_editor.proofs.script.Reader.finish.Goals as goal

pub returns-in-Ok : goal.returns-in-Ok
returns-in-Ok c =
    let some : 0 < length c.args.self.line.items = search rules in
    λ text so. finish_ended text c.args.self c.end_line.new.self so some c.in-Ok.ensures.ok

pub returns-in-Err : goal.returns-in-Err
returns-in-Err c =
    let some : 0 < length c.args.self.line.items = search rules in
    λ text so. finish_bad text c.args.self c.in-Err.fault so some c.in-Err.ensures.refused
