use Rattle.std.proofs.Common.{◌≡◌, true, [], ◌++◌, map, string_bytes, sym, ap, ◌∙◌, subst, append-nil}
use Rattle.std.proofs.lemmas.Map.Iter.{rest_all}
use Rattle.outside.specs.Folder.{all_differ}
use Rattle.adapters.proofs.Sorted.{sorted_names_differ}
use Rattle.adapters.proofs.directory.in_order.Goals as goal

pub returns : goal.returns
returns c =
    let names = c.loop-name.names in
    let left : c.loop-name.name-iterator ≡ [] = rest_all (λ name. name) _ _ _ c.in-None.is c.next.ensures.steps in
    let all : names ≡ map string_bytes c.args.found.keys =
    sym (append-nil names) ∙ ap (λ rest. names ++ map string_bytes rest) (sym left) ∙ c.loop-name.invariant in
    subst (λ list. all_differ list ≡ true) (sym all) (sorted_names_differ c.args.found.keys c.into_iter-name-iterator.ensures.into_iter_gives.4)
