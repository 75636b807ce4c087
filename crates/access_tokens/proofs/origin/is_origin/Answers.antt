use Rattle.std.proofs.Common.{sym, ◌∙◌}
use Rattle.access_tokens.proofs.OriginLemmas.{origin_passes, passes_is}
use Rattle.access_tokens.proofs.origin.is_origin.Goals as goal

pub returns : goal.returns
returns c = ((λ is. passes_is c.args.text.now (sym c.passes.ensures ∙ is)), λ origin. c.passes.ensures ∙ origin_passes c.args.text.now origin)
