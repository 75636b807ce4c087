use Rattle.std.proofs.Common.{◌≡◌, string_bytes, vec_len}
use Rattle.std.specs.List.{AllByRecursion}
use Rattle.mokdrai.proofs.making.folders.Given as goal

abbrev pub invariant-loop : goal.invariant-loop
invariant-loop g l = (vec_len l.all ≡ l.counter) × AllByRecursion (λ one. string_bytes one.folder ≡ l.name) l.all.items
