use Rattle.std.proofs.Common.{arith}
use Rattle.schedule_text.proofs.WordValues.{place_found}
use Rattle.schedule_text.proofs.values.place_read.Goals as goal

pub overflow_sub-result : goal.overflow_sub-result
overflow_sub-result c =
    let some = ((c.counted_read.ensures c.in-Some.number).0 c.in-Some.is).0.counted in
    omega (arith, some)

pub returns : goal.returns
returns c = place_found c.args.word.now c.in-Some.number c.counted_read.result c.in-Some.is c.counted_read.ensures
