use Rattle.std.proofs.Common.{◌≡◌, ap, ◌∙◌}
use Rattle.wopi_model.specs.Begin.{Begin}
use Rattle.wopi_model.specs.Shard.{after, begun}
use Rattle.host_core.proofs.Lefts.{begun_on}
use Rattle.host_core.proofs.laws.a_reopened_shard_goes_on.Goals as goal

pub returns : goal.returns
returns c = λ only files times life begin next dates history good tells last is. record {
  shard = ap begun is.begin_is ∙ begun_on only files life (after (begun begin) history) is.opening good tells is.read;
  last = ap (λ (b : Begin). b.last) is.begin_is ∙ last;
}
