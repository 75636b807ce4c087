use Rattle.std.proofs.Common.{◌≡◌, ◌++◌, [], List, length, map, None, Some, sym, ap, subst, ◌∙◌}
use Rattle.std.proofs.lemmas.List.{append-nil}
use Rattle.name_index.specs.ByBytes.{pair_of}
use Rattle.host_core.specs.declared.children.Child.{Child}
use Rattle.host_core.specs.Children.{AreChildren}
use Rattle.host_core.specs.Files.{files_of}
use Rattle.host_core.specs.Whole.{joined}
use Rattle.host_core.proofs.Showing.{AreBelow, listed, are_children, are_below, turned}
use Rattle.host_core.proofs.children.children_of.Goals as goal

pub pairs-init : goal.pairs-init
pairs-init c =
    let files = c.args.files.now in
    let all : map pair_of c.into_iter-name-iterator.result ≡ c.args.index.now = ap (map pair_of) c.into_iter-name-iterator.ensures.into_iter_gives ∙ c.iter-name-items.ensures.pairs in (
      ap (λ (l : List Child). l ++ listed files (map pair_of c.into_iter-name-iterator.result)) c.in_ok-items.ensures.items ∙ ap (listed files) all,
      subst (AreBelow (length files)) (sym all) (are_below c.args.index.now files c.requires c.iter-name-items.ensures.in_order),
    )

pub pairs-preserved-in-None-child_of : goal.pairs-preserved-in-None-child_of
pairs-preserved-in-None-child_of c =
    turned c.args.files.now c.pairs.items.items c.pairs.items.items (listed c.args.files.now c.args.index.now) _ (map pair_of c.next.new.self) (c.in-Some._name.now.name, c.in-Some.number.now) c.index-files-number.result None
    (ap (map pair_of) c.in-Some.ensures.steps) c.index-files-number.is (sym c.in-None-child_of.is ∙ c.child_of.ensures) (sym (append-nil c.pairs.items.items)) c.pairs.invariant

pub pairs-preserved : goal.pairs-preserved
pairs-preserved c =
    turned c.args.files.now c.pairs.items.items c.push.new.self.items (listed c.args.files.now c.args.index.now) _ (map pair_of c.next.new.self) (c.in-Some._name.now.name, c.in-Some.number.now) c.index-files-number.result (Some c.in-Some-child_of.child)
    (ap (map pair_of) c.in-Some.ensures.steps) c.index-files-number.is (sym c.in-Some-child_of.is ∙ c.child_of.ensures) c.in_ok-push-in-Some-child_of.ensures.items c.pairs.invariant

pub returns : goal.returns
returns c = λ first standings.
    let files = c.args.files.now in
    let rest : map pair_of c.pairs._name-iterator ≡ [] = ap (map pair_of) c.in-None.ensures.steps.0 in
    let all : listed files c.args.index.now ≡ c.pairs.items.items = sym c.pairs.invariant.0 ∙ ap (λ l. c.pairs.items.items ++ listed files l) rest ∙ append-nil c.pairs.items.items in
    subst (λ (items : List Child). AreChildren (files_of first (joined files standings)) items) all (are_children c.args.index.now files c.requires c.iter-name-items.ensures.in_order first standings)
