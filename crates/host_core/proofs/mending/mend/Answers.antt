use Rattle.std.proofs.Common.{◌≡◌, ◌≤◌, ◌<◌, length, ◌∙◌, arith}
use Rattle.host_core.proofs.Mends.{doubt_step, mends_step}
use Rattle.host_core.proofs.mending.mend.Goals as goal

pub files-preserved : goal.files-preserved
files-preserved g c =
    let files = g.F.Store.files in
    let times = g.F.Store.times in
    let all = c.args.files.now.items in
    let file = c.index.result.now in
    let lt : c.files.place < length all = omega (arith, c.files-test.true, c.len.ensures, c.args.files.now.ok.0) in
    let start = c.args.folder.now in
    let so = c.files.invariant in
    let falls = so.5 in
    let more = c.mend_one.ensures.never_falls in (
      omega (arith, lt),
      mends_step all c.files.place file (files start) (files c.files.folder) (files c.mend_one.new.folder) lt c.index.ensures so.1 c.in-Ok.ensures.mends,
      doubt_step all c.files.place file (files start) (files c.files.folder) (files c.mend_one.new.folder) lt c.index.ensures so.2 c.mend_one.ensures.doubt,
      doubt_step all c.files.place file (times start) (times c.files.folder) (times c.mend_one.new.folder) lt c.index.ensures so.3 c.mend_one.ensures.other_times,
      c.mend_one.ensures.log ∙ so.4,
      omega (arith, falls, more),
    )
