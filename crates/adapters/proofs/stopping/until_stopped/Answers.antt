use Rattle.std.proofs.Common.{◌≡◌, [], ◌∷◌, arith, length-append}
use Rattle.adapters.proofs.ListenerLemmas.{AllByRecursion-more, AreOver-more, held-more}
use Rattle.adapters.proofs.stopping.until_stopped.Goals as goal

pub loop-listener-preserved : goal.loop-listener-preserved
loop-listener-preserved g c =
    let old = c.loop-listener.invariant in
    let grown = c.in_ok-push.ensures.items in
    let longer = c.in_ok-push.ensures.len in
    let made = c.new.ensures in
    let before = old.count in
    let one_more = length-append c.loop-listener.yielded (c.in-Some.listener ∷ []) in
    record {
      count = omega (arith, longer, before, one_more);
      untold = λ none. rw grown (held-more (λ one. one.listener) c.loop-listener.all.items c.new.result c.loop-listener.yielded c.in-Some.listener (old.untold none) (made.untold none));
      over = rw grown (AreOver-more (λ one. one.listener) c.loop-listener.all.items c.new.result c.loop-listener.yielded c.in-Some.listener old.over made.listener);
      begins = rw grown (AllByRecursion-more (λ one. (one.path ≡ c.args.path) × (one.accepted ≡ 0) × (one.finished ≡ 0)) c.loop-listener.all.items c.new.result old.begins (made.path, made.accepted, made.finished));
    }
