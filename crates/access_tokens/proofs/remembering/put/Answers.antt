use Rattle.std.proofs.Common.{sym, subst}
use Rattle.std.specs.List.{All}
use Rattle.std.proofs.lemmas.List.Elements.{All-set}
use Rattle.access_tokens.specs.Remembering.{IsKnown}
use Rattle.access_tokens.proofs.Remembered.{all_pushed}
use Rattle.access_tokens.proofs.remembering.put.Goals as goal

pub returns-then-place-len-clause-all : goal.returns-then-place-len-clause-all
returns-then-place-len-clause-all c = λ keys all one. All-set (IsKnown keys) _ _ _ one all

pub returns-clause-all : goal.returns-clause-all
returns-clause-all c = λ keys all one. subst (All (IsKnown keys)) (sym c.push.ensures.items) (all_pushed (IsKnown keys) _ _ _ all one)
