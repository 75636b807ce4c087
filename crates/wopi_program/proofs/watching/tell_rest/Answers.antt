use Rattle.std.proofs.Common.{arith}
use Rattle.wopi_program.proofs.WatchLemmas.{all_before, tells_both, tells_none}
use Rattle.wopi_program.proofs.watching.tell_rest.Goals as goal

pub shards-init : goal.shards-init
shards-init g c = record { told = tells_none _ _ _ _; right = c.requires.right; all = λ shard below. absurd (omega (arith, below)) }

pub shards-preserved : goal.shards-preserved
shards-preserved g c = record {
  told = tells_both _ _ _ _ _ _ _ _ c.shards.invariant.told c.tell_in.ensures.told;
  right = c.tell_in.ensures.right;
  all = all_before _ _ _ _ _ _ c.args.capacity c.args.journal.now.parts c.shards.shard c.shards.invariant.all c.tell_in.ensures.told c.tell_in.ensures.itself;
}
