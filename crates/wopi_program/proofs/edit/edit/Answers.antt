use Rattle.std.proofs.Common.{inr, refl}
use Rattle.wopi_program.proofs.EditLemmas.{run_of}
use Rattle.wopi_program.proofs.edit.edit.Goals as goal

pub returns-in-Ok-clause-edits : goal.returns-in-Ok-clause-edits
returns-in-Ok-clause-edits g c =
    let ran = c.run_script.ensures in
    inr (inr (run_of _ c.args.editor c.in-Ok.script c.run_script.result _ _ _ refl refl ran.others c.in-Ok.ensures.read c.in-Ok.ensures.whole ran.ran))
