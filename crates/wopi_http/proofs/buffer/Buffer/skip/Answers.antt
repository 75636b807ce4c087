use Rattle.std.proofs.Common.{◌≤◌, ◌∙◌, ap, drop, length, subst, sym}
use Rattle.wopi_http.proofs.BufferLemmas.{view_skip}
use Rattle.wopi_http.proofs.buffer.Buffer.skip.Goals as goal

pub returns : goal.returns
returns c =
    let b = c.self.inside in
    let n = c.args.n in
    view_skip b.space.items b.at b.end n c.self.invariant.0 (subst (λ z. n ≤ length z) (sym c.self.view_is) c.requires)
    ∙ ap (drop n) c.self.view_is
