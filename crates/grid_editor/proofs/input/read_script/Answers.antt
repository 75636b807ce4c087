use Rattle.std.proofs.Common.{◌≡◌, ap, Err}
use Rattle.line_text.specs.declared.input.InputFault.TheVariants.{Read}
use Rattle.line_text.proofs.WholeInputs.{read_weaker}
use Rattle.grid_editor.specs.Inputs.{IsUndecided}
use Rattle.grid_editor.proofs.ScriptLemmas.{refused_input, undecided, whole_bad}
use Rattle.grid_editor.proofs.input.read_script.Goals as goal

pub returns-in-Err-clause-read : goal.returns-in-Err-clause-read
returns-in-Err-clause-read g c =
    refused_input (g.S.Source.left c.args.source.now) (g.S.Source.left c.read_text.new.source) c.in-Err.fault
    (λ f same. c.in-Err.ensures.refused f (ap (λ x. Err x) same))

pub returns-in-Err-clause-prompt : goal.returns-in-Err-clause-prompt
returns-in-Err-clause-prompt g c = λ is.
    let same : c.in-Err.fault ≡ Read = cc is in
    read_weaker _ _ _ IsUndecided (λ text so. undecided text c.read_text.new.text so) (c.in-Err.ensures.prompt (ap (λ x. Err x) same))

pub returns-in-Err-finish-clause-read : goal.returns-in-Err-finish-clause-read
returns-in-Err-finish-clause-read g c =
    whole_bad (g.S.Source.left c.args.source.now) (g.S.Source.left c.read_text.new.source) c.read_text.new.text c.in-Err-finish.fault
    c.in-Ok-read_text.ensures.whole c.in-Ok-read_text.ensures.end c.in-Err-finish.ensures
