use Rattle.std.proofs.Common.{◌∙◌, refl}
use Rattle.wopi_program.proofs.WatchLemmas.{same_both, same_still, tells_both, tells_none}
use Rattle.wopi_program.proofs.watching.watch.Goals as goal

pub looks-init : goal.looks-init
looks-init g c = record {
  told = tells_none _ _ _ _;
  right = c.requires.right;
  own = refl;
  same = same_still _;
}

pub looks-preserved : goal.looks-preserved
looks-preserved g c = record {
  told = tells_both _ _ _ _ _ _ _ _ c.looks.invariant.told c.look_round.ensures.told;
  right = c.look_round.ensures.right;
  own = c.look_round.ensures.own ∙ c.looks.invariant.own;
  same = same_both _ _ _ c.looks.invariant.same c.look_round.ensures.same;
}

pub look_round-requires-clause-host : goal.look_round-requires-clause-host
look_round-requires-clause-host g c = c.looks.invariant.same.locks ∙ c.requires.host

pub returns-then-load-clause-told : goal.returns-then-load-clause-told
returns-then-load-clause-told g c = tells_both _ _ _ _ _ _ _ _ c.looks.invariant.told c.look_round.ensures.told

pub returns-then-load-clause-own : goal.returns-then-load-clause-own
returns-then-load-clause-own g c = c.look_round.ensures.own ∙ c.looks.invariant.own

pub returns-then-load-clause-same : goal.returns-then-load-clause-same
returns-then-load-clause-same g c = same_both _ _ _ c.looks.invariant.same c.look_round.ensures.same
