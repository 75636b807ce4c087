use Rattle.std.proofs.Common.{◌+◌, [], ◌∷◌, length, sym, ap, subst, arith, length-append, ◌∙◌}
use Rattle.host_core.specs.Listing.{AreListed}
use Rattle.containers.proofs.Looks.{LooksOn-more, listed_more, telling_on}
use Rattle.containers.proofs.looking.list_all.Goals as goal

pub returns-in_err-list-clause-looks : goal.returns-in_err-list-clause-looks
returns-in_err-list-clause-looks g c = LooksOn-more _ _ _ _ c.loop-shard.invariant.looks c.list.ensures.looks

pub returns-in_err-push-clause-looks : goal.returns-in_err-push-clause-looks
returns-in_err-push-clause-looks g c = LooksOn-more _ _ _ _ c.loop-shard.invariant.looks c.list.ensures.looks

pub returns-in_err-list-clause-telling : goal.returns-in_err-list-clause-telling
returns-in_err-list-clause-telling g c = telling_on _ _ _ _ c.loop-shard.invariant.telling c.list.ensures.telling

pub returns-in_err-push-clause-telling : goal.returns-in_err-push-clause-telling
returns-in_err-push-clause-telling g c = telling_on _ _ _ _ c.loop-shard.invariant.telling c.list.ensures.telling

pub loop-shard-preserved : goal.loop-shard-preserved
loop-shard-preserved g c =
    let sight = g.L.Caller.sight in
    let before = c.loop-shard.invariant in
    let so_far = c.loop-shard.listings.items in
    let one = c.in_ok-list.field-0 in
    let grown = c.in_ok-push.ensures.items in
    record {
      count = omega (arith, ap length grown, length-append so_far (one ∷ []), before.count);
      each = subst (AreListed (sight c.list.new.self) 0) (sym grown)
          (listed_more (sight c.loop-shard.lister) (sight c.list.new.self) 0 c.loop-shard.shard so_far one (omega (arith, before.count)) c.list.ensures.looks.rest
          before.each c.in_ok-list.ensures.listed);
      looks = LooksOn-more _ _ _ _ before.looks c.list.ensures.looks;
      telling = telling_on _ _ _ _ before.telling c.list.ensures.telling;
      basis = c.list.ensures.basis ∙ before.basis;
      references = c.list.ensures.references ∙ before.references;
    }
