use Rattle.std.proofs.Common.{◌≡◌, vec_len}
use Rattle.std.specs.List.{AllByRecursion}
use Rattle.adapters.proofs.sharing.share.Given as goal

abbrev pub invariant-loop : goal.invariant-loop
invariant-loop g l = (vec_len l.all ≡ l.counter) × AllByRecursion (λ one. (one.listener.most ≡ l.most) × (one.listener.accepted ≡ 0) × (one.listener.finished ≡ 0)) l.all.items
