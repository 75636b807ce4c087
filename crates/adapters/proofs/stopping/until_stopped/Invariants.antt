use Rattle.std.proofs.Common.{◌≡◌, length, map, vec_len, None, Some}
use Rattle.std.specs.List.{AllByRecursion}
use Rattle.adapters.specs.Stopping.{AreOver}
use Rattle.adapters.proofs.stopping.until_stopped.Given as goal

abbrev pub invariant-loop-listener : goal.invariant-loop-listener
invariant-loop-listener g l = record {
  count : vec_len l.all ≡ length l.yielded;
  untold : l.fn.path ≡ None → map (λ one. one.listener) l.all.items ≡ map Some l.yielded;
  over : AreOver (λ one. one.listener) l.all.items l.yielded;
  begins : AllByRecursion (λ one. (one.path ≡ l.fn.path) × (one.accepted ≡ 0) × (one.finished ≡ 0)) l.all.items;
}
