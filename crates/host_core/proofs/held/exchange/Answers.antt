use Rattle.std.specs.Prelude.{Option}
use Rattle.std.proofs.Common.{◌∙◌, ap, subst, sym}
use Rattle.wopi_model.specs.declared.locks.Lock.{Lock}
use Rattle.kept_locks.specs.Ties.{Spends}
use Rattle.lock_machine.specs.Changes.{spent_as}
use Rattle.host_core.proofs.Turning.{spends_at}
use Rattle.host_core.proofs.held.exchange.Goals as goal

pub set-requires-clause-spend : goal.set-requires-clause-spend
set-requires-clause-spend c =
    let spend = c.args.effect.spend in
    subst (Spends c.args.locks.now.files c.args.number) (sym (c.spent_left-spend.ensures ∙ ap (λ (lock : Option Lock). spent_as lock spend) c.lock_of-held.ensures))
    (spends_at c.args.locks.now.files c.args.number spend c.requires.number)
