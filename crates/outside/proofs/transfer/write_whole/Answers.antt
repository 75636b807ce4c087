use Rattle.std.proofs.Common.{arith, take, ◌++◌, ◌∙◌}
use Rattle.std.proofs.KnownBytes.{Appends-trans}
use Rattle.outside.proofs.Pieces.{moves_front}
use Rattle.outside.proofs.transfer.write_whole.Goals as goal

pub loop-rest-preserved : goal.loop-rest-preserved
loop-rest-preserved g c =
    let (front, split, written) = c.loop-rest.invariant.written in
    let rest = c.loop-rest.rest.now in
    let n = c.in_ok-count.count in
    record {
      written = (front ++ take n rest, moves_front _ front rest n split, Appends-trans _ _ _ _ _ written c.in_ok-count.ensures.bytes);
      beside = c.in_ok-count.ensures.beside ∙ c.loop-rest.invariant.beside;
      never_falls = omega arith;
    }
