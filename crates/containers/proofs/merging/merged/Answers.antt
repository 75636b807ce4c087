use Rattle.std.proofs.Common.{◌≡◌, ℕ, List, length, take, drop, ◌++◌, sym, ap, subst, ◌∙◌, arith}
use Rattle.std.specs.List.Sorted.{IsPermutation}
use Rattle.std.proofs.lemmas.List.Sorted.{length_permutation}
use Rattle.host_core.specs.declared.children.Child.{Child}
use Rattle.containers.specs.Listed.{AreMerged}
use Rattle.containers.specs.Names.{AreNamedApart}
use Rattle.containers.proofs.Merges.{merged, whole}
use Rattle.containers.proofs.merging.merged.Goals as goal

pub returns : goal.returns
returns c =
    let old = c.in_ok-children.children.items in
    let new = c.sort_by_name.new.children in
    let len = c.in_ok-children.children.len in
    let moved = subst (λ l. IsPermutation l new) (c.deref_mut.ensures.value ∙ c.in_ok-children.ensures) c.sort_by_name.ensures.permutation in
    let sized = length_permutation _ _ c.sort_by_name.ensures.permutation ∙ ap length c.deref_mut.ensures.value in
    let held = c.in_ok-children.children.ok.0 in
    subst (AreMerged c.args.listings.items) (sym (whole new old len (omega (arith, sized, held)) (omega (arith, held))))
    (merged c.args.listings.items new c.requires moved c.sort_by_name.ensures.sorted)
