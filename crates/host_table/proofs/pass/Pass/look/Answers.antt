use Rattle.std.proofs.Common.{subst}
use Rattle.host_table.specs.Passes.{PassView, HasSeen}
use Rattle.host_table.specs.Views.{pass_of}
use Rattle.host_table.proofs.Seats.{has_seen}
use Rattle.host_table.proofs.pass.Pass.look.Goals as goal

pub returns : goal.returns
returns g c = let P : PassView g.row.F.Denot → Type 0 = λ p. HasSeen p in subst P c.self.view_is (has_seen (pass_of c.self.inside) c.self.invariant)
