use Rattle.std.proofs.Common.{Bool, List, [], ℕ, ap, sym, subst, ◌∙◌}
use Rattle.std.specs.Prelude.{unwrap_or}
use Rattle.host_log.specs.Lines.{LinesView}
use Rattle.host_log.specs.Rows.{IsTail}
use Rattle.host_log.proofs.lines.Lines.is_lost.Goals as goal

pub returns-clause-free : goal.returns-clause-free
returns-clause-free g c = λ lost.
    let i = c.self.inside in
    let are = c.self.invariant in
    let head : List ℕ = unwrap_or i.head [] in
    sym (ap (λ (w : LinesView). w.standing) c.self.view_is) ∙ (subst (λ (b : Bool). IsTail head i.told b i.standing i.doubt are.tail) lost are.tail_is).0
