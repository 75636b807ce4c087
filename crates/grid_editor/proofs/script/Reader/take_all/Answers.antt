use Rattle.std.proofs.Common.{◌<◌, ◌++◌, length, take, refl, rules}
use Rattle.grid_editor.proofs.ScriptLemmas.{bad_stays}
use Rattle.grid_editor.proofs.script.Reader.take_all.Goals as goal

pub returns-in-Err-clause-taken : goal.returns-in-Err-clause-taken
returns-in-Err-clause-taken c =
    let within : c.bytes.byte-index < length c.args.piece.now = search rules in
    λ text so.
    bad_stays text c.args.piece.now c.bytes.byte-index _ c.take.new.self c.take.new.self c.in-Err.fault within refl
    (c.in-Err.ensures.taken (text ++ take c.bytes.byte-index c.args.piece.now) (c.bytes.invariant.so_far text so))
