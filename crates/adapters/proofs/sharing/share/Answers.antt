use Rattle.std.proofs.Common.{◌≡◌, arith}
use Rattle.adapters.proofs.ListenerLemmas.{AllByRecursion-more}
use Rattle.adapters.proofs.sharing.share.Goals as goal

pub loop-preserved : goal.loop-preserved
loop-preserved g c =
    let old = c.loop.invariant in
    let before = old.0 in
    let grown = c.in_ok-push.ensures.items in
    let longer = c.in_ok-push.ensures.len in
    let made = c.new.ensures.listener in
    let own = c.new-own.ensures in (
      omega (arith, longer, before),
      rw grown (AllByRecursion-more (λ one. (one.listener.most ≡ c.args.most) × (one.listener.accepted ≡ 0) × (one.listener.finished ≡ 0)) c.loop.all.items c.new.result old.1
          (cc (made, own.most), cc (made, own.accepted), cc (made, own.finished))),
    )
