use Rattle.std.proofs.Common.{sym, ◌∙◌}
use Rattle.host_core.proofs.Light.{stored_takes}
use Rattle.host_core.proofs.Results.{onerr_always}
use Rattle.host_core.proofs.carry.carry.Goals as goal

pub returns-then-is_stored-clause-light : goal.returns-then-is_stored-clause-light
returns-then-is_stored-clause-light g c = onerr_always c.carry_outside.result _ (stored_takes c.args.call.now.act (sym c.is_stored.ensures ∙ c.if-is_stored.true))
