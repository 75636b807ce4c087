use Rattle.std.proofs.Common.{◌∙◌, refl}
use Rattle.wopi_program.proofs.WatchLemmas.{same_both, same_still, tells_both, tells_none}
use Rattle.wopi_program.proofs.watching.look_round.Goals as goal

pub shards-init : goal.shards-init
shards-init g c = record {
  told = tells_none _ _ _ _;
  right = c.requires.right;
  own = refl;
  same = same_still _;
}

pub shards-preserved : goal.shards-preserved
shards-preserved g c = record {
  told = tells_both _ _ _ _ _ _ _ _ c.shards.invariant.told c.look_at.ensures.told;
  right = c.look_at.ensures.right;
  own = c.look_at.ensures.own ∙ c.shards.invariant.own;
  same = same_both _ _ _ c.shards.invariant.same c.look_at.ensures.same;
}

pub look_at-requires-clause-host : goal.look_at-requires-clause-host
look_at-requires-clause-host g c = c.shards.invariant.same.locks ∙ c.requires.host
