use Rattle.std.proofs.Common.{List, ℕ, Option, inr, refl, subst}
use Rattle.journal_audit.specs.Streams.{IsFound}
use Rattle.wopi_program.proofs.contents.give_out.Goals as goal

pub returns-in-None-clause-found : goal.returns-in-None-clause-found
returns-in-None-clause-found g c = λ name version text found.
    inr (refl, refl, subst (λ (f : Option (List ℕ)). IsFound name version text f) c.in-None.is found)
