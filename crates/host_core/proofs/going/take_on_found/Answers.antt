use Rattle.std.proofs.Common.{◌≡◌, ◌<◌, ◌≤◌, ◌+◌, length, arith}
use Rattle.host_core.specs.Going.{kept_on, locks_in}
use Rattle.host_core.proofs.Seams.{changed_at, mapped_more, same_at, so_long}
use Rattle.host_core.proofs.going.take_on_found.Goals as goal

pub files-preserved : goal.files-preserved
files-preserved c =
    let life = c.args.life.now in
    let all = c.args.files.now.items in
    let files = c.files.files.items in
    let place = c.files.place in
    let so = c.files.invariant in
    let old = c.index_mut.result.now in
    let long = so_long (kept_on life) all files place so.1 in
    let lt : place < length all = omega (arith, long, c.files-test.true, c.len-in-files.ensures, c.files.files.ok.0) in
    let at = same_at (kept_on life) all files place old lt so.1 c.index_mut.ensures.value in (
      omega (arith, lt),
      changed_at (kept_on life) all files place old c.take_on.new.file lt so.1 c.index_mut.ensures.value c.in_ok-locks.ensures.file,
      mapped_more (locks_in life) all place old c.files.told.items c.push.new.self.items c.in_ok-locks.locks lt at so.2 c.in_ok-push.ensures.items c.in_ok-locks.ensures.locks,
    )
