use Rattle.std.proofs.Common.{◌≡◌, ◌++◌, take}
use Rattle.std.specs.Prelude.{flat_map}
use Rattle.containers.specs.Written.{child_tokens}
use Rattle.containers.proofs.listed.write_children.Given as goal

abbrev pub invariant-loop-child : goal.invariant-loop-child
invariant-loop-child l = record {
  tokens : l.out.tokens ≡ l.fn.out.tokens ++ flat_map (child_tokens l.terms.keys.now l.terms.base.now l.terms.token.now l.terms.moment) (take l.child-index l.children);
  before : l.out.before ≡ l.fn.out.before;
}
