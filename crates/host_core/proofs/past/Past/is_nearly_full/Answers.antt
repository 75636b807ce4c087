use Rattle.std.proofs.Common.{◌≡◌, ◌⊎◌, ◌↔◌, ℕ, ◌*◌, ◌≤◌, IsTrue, length, subst, arith}
use Rattle.wopi_model.specs.Shard.{entries}
use Rattle.wopi_model.specs.Host.{kept, most_kept}
use Rattle.host_core.specs.Fullness.{WasNearlyFull}
use Rattle.host_core.specs.ShardView.{left_of}
use Rattle.host_core.specs.Times.{untimed}
use Rattle.host_core.specs.Value.{Left}
use Rattle.host_core.proofs.Timing.{length-untimed}
use Rattle.host_core.proofs.past.Past.is_nearly_full.Goals as goal

pub returns : goal.returns
returns g c =
    let inside = c.self.inside in
    let left : Left g.row.F.Denot = left_of inside in
    let long = length-untimed left.made in
    let len = c.len.ensures in
    let ok = inside.entries.ok.0 in
    let many : c.len.result ≡ length (entries (untimed left.made)) = omega (arith, len, long, ok) in
    let all : (c.len.result, inside.bytes) ≡ (length (entries (untimed left.made)), kept left.opening (untimed left.made)) = λ i. (many i, c.self.invariant i) in
    let here : IsTrue c.are_nine_tenths.result ↔ WasNearlyFull c.args.capacity left.opening (untimed left.made) =
    subst (λ (z : ℕ × ℕ). IsTrue c.are_nine_tenths.result ↔ ((9 * c.args.capacity ≤ 10 * z.0) ⊎ (9 * most_kept ≤ 10 * z.1))) all c.are_nine_tenths.ensures in
    subst (λ (l : Left g.row.F.Denot). IsTrue c.are_nine_tenths.result ↔ WasNearlyFull c.args.capacity l.opening (untimed l.made)) c.self.view_is here
