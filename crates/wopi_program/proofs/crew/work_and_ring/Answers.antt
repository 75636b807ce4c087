use Rattle.std.proofs.Common.{◌≡◌, length, rules}
use Rattle.wopi_program.proofs.Zipped.{AllZip-written}
use Rattle.wopi_program.proofs.crew.work_and_ring.Goals as goal

pub returns : goal.returns
returns g c =
    let whole : length c.args.workers.items ≡ c.args.workers.len = search rules in
    AllZip-written _ _ _ _ _ c.as_mut_slice.ensures.value c.work_each.ensures.len whole c.work_each.ensures.each
