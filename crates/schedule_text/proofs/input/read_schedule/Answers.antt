use Rattle.std.proofs.Common.{◌≡◌, ap, Err}
use Rattle.line_text.specs.declared.input.InputFault.TheVariants.{Read}
use Rattle.line_text.proofs.WholeInputs.{read_weaker}
use Rattle.schedule_text.specs.Inputs.{IsUndecided}
use Rattle.schedule_text.proofs.InputLemmas.{refused_input, whole_bad, whole_schedule}
use Rattle.schedule_text.proofs.PieceLemmas.{undecided}
use Rattle.schedule_text.proofs.input.read_schedule.Goals as goal

pub returns-in-Err-clause-read : goal.returns-in-Err-clause-read
returns-in-Err-clause-read g c =
    refused_input (g.S.Source.left c.args.source.now) (g.S.Source.left c.read_text.new.source) c.in-Err.fault
    (λ f same. c.in-Err.ensures.refused f (ap (λ x. Err x) same))

pub returns-in-Err-clause-prompt : goal.returns-in-Err-clause-prompt
returns-in-Err-clause-prompt g c = λ is.
    let same : c.in-Err.fault ≡ Read = cc is in
    read_weaker _ _ _ IsUndecided (λ text come. undecided text c.read_text.new.text come) (c.in-Err.ensures.prompt (ap (λ x. Err x) same))

pub finish-requires : goal.finish-requires
finish-requires g c = (c.in-Ok-read_text.ensures.whole.bytes, c.in-Ok-read_text.ensures.whole.says)

pub returns-in-Ok-finish-clause-read : goal.returns-in-Ok-finish-clause-read
returns-in-Ok-finish-clause-read g c =
    whole_schedule (g.S.Source.left c.args.source.now) (g.S.Source.left c.read_text.new.source) c.read_text.new.text c.in-Ok-finish.schedule
    c.in-Ok-read_text.ensures.whole c.in-Ok-read_text.ensures.end c.in-Ok-finish.ensures

pub returns-in-Err-finish-clause-read : goal.returns-in-Err-finish-clause-read
returns-in-Err-finish-clause-read g c =
    whole_bad (g.S.Source.left c.args.source.now) (g.S.Source.left c.read_text.new.source) c.read_text.new.text c.in-Err-finish.fault
    c.in-Ok-read_text.ensures.whole c.in-Ok-read_text.ensures.end c.in-Err-finish.ensures
