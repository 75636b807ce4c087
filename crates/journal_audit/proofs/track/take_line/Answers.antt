use Rattle.std.proofs.Common.{◌∙◌, sym}
use Rattle.journal_audit.proofs.Tracking.{takes_met}
use Rattle.journal_audit.proofs.track.take_line.Goals as goal

pub returns-in-Ok-clause-takes : goal.returns-in-Ok-clause-takes
returns-in-Ok-clause-takes c =
    let (old, new, stood, set, steps) = c.in-Ok.ensures.steps in
    takes_met c.args.first c.args.opened c.args.line.now c.args.names.now c.args.files.now.items c.take_met.new.files.items c.args.spent.now c.take_met.new.spent c.in-Some.number old new c.in-Ok.ruled
    c.requires.numbered (sym c.find.ensures ∙ c.in-Some.is) stood set c.take_met.ensures.others steps
