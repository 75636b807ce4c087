use Rattle.std.proofs.Common.{refl, arith}
use Rattle.std.proofs.lemmas.Grind.{common_steps}
use Rattle.access_tokens.proofs.Blocks.{filled_by_places, zero_at}
use Rattle.access_tokens.proofs.mac.filled.Goals as goal

pub loop-i-init : goal.loop-i-init
loop-i-init c = record { sized = refl; front = λ k h. absurd (omega arith); zeros = λ k _. zero_at 64 k }

pub loop-i-preserved : goal.loop-i-preserved
loop-i-preserved c = record {
  sized = grind (arith, common_steps);
  front = λ k h. grind (arith, common_steps);
  zeros = λ k h. grind (arith, common_steps);
}

pub returns : goal.returns
returns c =
    let loop = c.loop-i.invariant in
    filled_by_places c.loop-i.block c.args.bytes.now loop.sized c.requires
    (λ k h. loop.front k (omega arith)) (λ k h. loop.zeros k (omega arith))
