use Rattle.std.proofs.Common.{ap, subst, ◌∙◌}
use Rattle.wopi_model.specs.declared.calls.Act.{Act}
use Rattle.wopi_model.specs.declared.calls.Call.{Call}
use Rattle.wopi_model.specs.Host.{FullFrom}
use Rattle.host_core.specs.Entries.{history_of}
use Rattle.host_core.proofs.FullLooks.{full_look}
use Rattle.host_core.proofs.shard.Shard.look_in_stead.Goals as goal

pub returns-in-Err-clause-full : goal.returns-in-Err-clause-full
returns-in-Err-clause-full g c = λ is.
    let old = c.args.self.now in
    full_look old.limits old.begin (history_of old.made old.time) c.args.floor c.args.call.now c.args.moment
    (subst (λ (x : Call). FullFrom old.limits old.begin (history_of old.made old.time) c.args.floor x c.args.moment) c.withhold-act.ensures.look (c.in-Err.ensures.full is))

pub returns-in-Err-clause-call : goal.returns-in-Err-clause-call
returns-in-Err-clause-call g c =
    ap (λ (x : Call). record x { act = c.withhold-act.result }) (c.in-Err.ensures.call ∙ c.withhold-act.ensures.look)
    ∙ ap (λ (a : Act). record c.args.call.now { act = a }) c.withhold-act.ensures.act
