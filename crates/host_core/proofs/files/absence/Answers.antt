use Rattle.std.proofs.Common.{Bool, if◌then◌else◌, sym, ap, ◌∙◌}
use Rattle.wopi_model.specs.File.{never_met}
use Rattle.wopi_model.specs.Settle.{settled}
use Rattle.wopi_model.specs.Step.{Decision, Refuse, ruling_of}
use Rattle.host_core.proofs.Absent.{absent_decision}
use Rattle.host_core.proofs.files.absence.Goals as goal

pub returns-then-is_unauthorized : goal.returns-then-is_unauthorized
returns-then-is_unauthorized c = λ first.
    sym (ap (λ (d : Decision). ruling_of d (settled (never_met first) c.args.now) c.args.call.now c.args.now) (absent_decision first c.args.call.now c.args.opened c.args.now c.requires
    ∙ ap (λ (b : Bool). if b then Refuse 401 else Refuse 404) (sym c.is_unauthorized.ensures ∙ c.if-is_unauthorized.true)))

pub returns : goal.returns
returns c = λ first.
    sym (ap (λ (d : Decision). ruling_of d (settled (never_met first) c.args.now) c.args.call.now c.args.now) (absent_decision first c.args.call.now c.args.opened c.args.now c.requires
    ∙ ap (λ (b : Bool). if b then Refuse 401 else Refuse 404) (sym c.is_unauthorized.ensures ∙ c.if-is_unauthorized.false)))
