use Rattle.std.proofs.Common.{◌≡◌, arith, string_bytes}
use Rattle.adapters.proofs.ListenerLemmas.{AllByRecursion-more}
use Rattle.mokdrai.proofs.making.folders.Goals as goal

pub loop-preserved : goal.loop-preserved
loop-preserved g c =
    let old = c.loop.invariant in
    let before = old.0 in
    let grown = c.in_ok-push.ensures.items in
    let longer = c.in_ok-push.ensures.len in (
      omega (arith, longer, before),
      rw grown (AllByRecursion-more (λ one. string_bytes one.folder ≡ c.args.name.now) c.loop.all.items c.in_ok-folder.folder old.1 c.in_ok-folder.ensures),
    )
