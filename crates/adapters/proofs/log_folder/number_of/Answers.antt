use Rattle.std.proofs.Common.{sym, ◌∙◌}
use Rattle.adapters.proofs.LogLemmas.{number_in_of, number_in_some}
use Rattle.adapters.proofs.log_folder.number_of.Goals as goal

pub returns : goal.returns
returns c = λ number. (
  λ is. number_in_some c.args.name.now number (sym c.number_in.ensures ∙ is),
  λ of. c.number_in.ensures ∙ number_in_of c.args.name.now number of,
)
