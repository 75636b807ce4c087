use Rattle.std.proofs.Common.{◌≡◌, ◌<◌, ap, sym, ◌∙◌, arith, inl, inr}
use Rattle.std.specs.Prelude.{◌==◌, IsTrue, not}
use Rattle.std.specs.List.{list_any}
use Rattle.wopi_text.specs.FileName.{shard_of}
use Rattle.journal_audit.proofs.Ordering.{not_true, ordered_here, ordered_is, true_not}
use Rattle.journal_audit.proofs.order.Order.takes.Goals as goal

pub returns : goal.returns
returns c begun keeps =
    let order = c.args.self.now in
    let line = c.args.line.now in
    let own : line.shard ≡ shard_of line.name = c.if-line-shard.false ∙ c.shard.ensures in
    let a = c.if-self-line.false in
    let b = c.if-line-self.false in
    let z = c.if-line-eq0.false in
    let l = c.if-line-self-2.false in
    let same : order.stamp ≡ line.stamp = omega (arith, a, b) in
    let positive : 0 < line.stamp = omega (arith, z) in
    let less : order.shard < line.shard = omega (arith, l) in
    let is : c.has_pass.result ≡ list_any (λ one. one == line.pass) order.passes.items = c.has_pass.ensures ∙ ap (list_any (λ one. one == line.pass)) c.deref.ensures.value in (
      λ none. ordered_here order begun line keeps own same positive less (λ has. true_not c.has_pass.result none (is ∙ has)),
      λ ordered.
          let r = ordered_is order begun line keeps ordered in
          elim r.2 as (λ _. IsTrue (not c.has_pass.result)) [
            | inl later ↦ absurd (omega (arith, later, same))
            | inr here ↦ not_true c.has_pass.result (λ h. here.2 (sym is ∙ h))
          ],
    )
