use Rattle.std.proofs.Common.{◌∙◌}
use Rattle.host_core.proofs.Turning.{renewed_goes, renewed_with}
use Rattle.host_core.proofs.held.change_lock.Goals as goal

pub renew-requires-clause-since : goal.renew-requires-clause-since
renew-requires-clause-since c =
    renewed_goes c.args.locks.now.files c.args.number c.in-GoesOn.since c.in-GoesOn.until c.args.effect.change _ c.requires.number c.in-GoesOn.is c.requires.since

pub returns-in-GoesOn-clause-files : goal.returns-in-GoesOn-clause-files
returns-in-GoesOn-clause-files c =
    c.renew.ensures.files
    ∙ renewed_with c.args.locks.now.files c.args.number c.in-GoesOn.since c.in-GoesOn.until c.args.now c.args.effect.change _ c.args.effect.spend c.requires.number c.in-GoesOn.is
    c.if-is_none.ensures
