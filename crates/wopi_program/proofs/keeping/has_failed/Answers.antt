use Rattle.std.proofs.Common.{◌∙◌, ap}
use Rattle.std.specs.Prelude.{not}
use Rattle.wopi_program.proofs.PairLemmas.{not_twice}
use Rattle.wopi_program.proofs.keeping.has_failed.Goals as goal

pub returns : goal.returns
returns g c = ap not c.is_whole.ensures.lost ∙ not_twice c.args.store.now.lines.lost
