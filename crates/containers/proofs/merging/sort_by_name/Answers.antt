use Rattle.std.proofs.Common.{◌≡◌, rules, tests}
use Rattle.std.specs.Ordering.{is_lt}
use Rattle.std.proofs.lemmas.Cmp.{nat_list_cmp_total}
use Rattle.std.proofs.lemmas.Fn.{always_returns_same}
use Rattle.std.proofs.lemmas.List.MinMax.{ranks_by}
use Rattle.host_core.specs.declared.children.Child.{Child}
use Rattle.containers.specs.Names.{is_before}
use Rattle.containers.proofs.merging.sort_by_name.Goals as goal

pub returns-clause-sorted : goal.returns-clause-sorted
returns-clause-sorted c =
    c.sort_unstable_by.ensures.sorted is_before (ranks_by nat_list_cmp_total (λ (child : Child). child.name))
    (always_returns_same _ (λ a r. is_lt r ≡ is_before a.0.now a.1.0.now) _ (λ a r f k. search (rules, tests)))
