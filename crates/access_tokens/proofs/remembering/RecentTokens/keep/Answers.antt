use Rattle.std.proofs.Common.{sym, subst}
use Rattle.std.specs.List.{All}
use Rattle.access_tokens.specs.Remembering.{IsKnown}
use Rattle.access_tokens.proofs.remembering.RecentTokens.keep.Goals as goal

pub returns-then-place-self : goal.returns-then-place-self
returns-then-place-self c = λ keys all one. c.put.ensures.all keys (subst (All (IsKnown keys)) (sym c.self.view_is) all) one

pub returns-else-place-self : goal.returns-else-place-self
returns-else-place-self c = λ keys all one. c.put.ensures.all keys (subst (All (IsKnown keys)) (sym c.self.view_is) all) one

pub returns-else-put : goal.returns-else-put
returns-else-put c = λ keys all one. c.put.ensures.all keys (subst (All (IsKnown keys)) (sym c.self.view_is) all) one
