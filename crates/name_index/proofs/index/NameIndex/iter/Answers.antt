use Rattle.std.proofs.Common.{◌≡◌, ℕ, List, Some, map, ap, subst, ◌∙◌}
use Rattle.std.proofs.lemmas.List.Elements.{recursion_from_All}
use Rattle.std.specs.BTreeMap.{get}
use Rattle.name_index.specs.declared.by_bytes.ByBytes.{ByBytes}
use Rattle.name_index.specs.ByBytes.{pair_of}
use Rattle.name_index.specs.Index.{IsInOrder}
use Rattle.name_index.proofs.Numbers.{cmp_names, keys_in_order, own_numbers}
use Rattle.name_index.proofs.index.NameIndex.iter.Goals as goal

pub returns-clause-pairs : goal.returns-clause-pairs
returns-clause-pairs c = ap (map pair_of) c.iter.ensures.rest ∙ c.self.view_is

pub returns-clause-in_order : goal.returns-clause-in_order
returns-clause-in_order c =
    let numbers = c.self.inside.numbers in
    let all = numbers.entries in
    subst (λ (pairs : List (List ℕ × ℕ)). IsInOrder pairs) c.self.view_is (record {
      ordered = keys_in_order all c.iter.ensures.ordered;
      own = own_numbers all all (recursion_from_All (λ (pair : ByBytes × ℕ). get cmp_names numbers pair.0 ≡ Some pair.1) all c.iter.ensures.found);
    })
