use Rattle.std.proofs.Common.{codes, sym, subst, ◌∙◌}
use Rattle.access_tokens.specs.Keys.{IsWordOf}
use Rattle.replay_cmd.proofs.starting.desk_of.Goals as goal

pub returns-clause-form : goal.returns-clause-form
returns-clause-form c = record {
  keys = subst (λ keys. IsWordOf keys (codes "4a656665")) (sym c.new.ensures.keys) c.in-Some.ensures.value;
  base = c.new.ensures.base ∙ c.in_ok-base.ensures;
}
