use Rattle.host_server.proofs.PageLemmas.{is_told}
use Rattle.host_server.proofs.desk.Desk.serving.Goals as goal

pub invariant_of-result : goal.invariant_of-result
invariant_of-result c = record { form = c.requires.form; moment = c.requires.moment; page = is_told c.args.origin c.requires.page }
