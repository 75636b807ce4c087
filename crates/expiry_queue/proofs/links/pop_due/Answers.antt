use Rattle.std.proofs.Common.{◌∙◌}
use Rattle.expiry_queue.specs.Links.{waiting_in}
use Rattle.expiry_queue.proofs.Lists.{without_first}
use Rattle.expiry_queue.proofs.links.pop_due.Goals as goal

pub returns-in-Some-clause-waiting : goal.returns-in-Some-clause-waiting
returns-in-Some-clause-waiting c =
    c.take_out.ensures.waiting ∙ without_first (waiting_in c.args.links.now) c.args.now c.in-Some.key c.requires.order.linked.keys c.in-Some.ensures
