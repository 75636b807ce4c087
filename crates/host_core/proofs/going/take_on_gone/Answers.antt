use Rattle.std.proofs.Common.{◌≡◌, ◌<◌, ◌≤◌, ◌+◌, length, ◌∙◌, arith}
use Rattle.host_core.proofs.Joins.{gone_next}
use Rattle.host_core.proofs.going.take_on_gone.Goals as goal

pub files-preserved : goal.files-preserved
files-preserved c =
    let life = c.args.life.now in
    let so = c.files.invariant in
    let lt : c.files.place < length life.files.items = omega (arith, c.files-test.true, c.len.ensures, life.files.ok.0) in (
      omega (arith, lt),
      gone_next life.now life.files.items c.files.place c.args.stock.now.files.items c.files.stock.files.items c.add_if_gone.new.stock.files.items c.args.told.now.items c.files.told.items c.add_if_gone.new.told.items c.index.result.now
          lt c.index.ensures c.requires.names c.in_ok-add_if_gone.ensures.files c.in_ok-add_if_gone.ensures.told so.1,
      c.in_ok-add_if_gone.ensures.numbered,
      c.in_ok-add_if_gone.ensures.bytes ∙ so.3,
      c.in_ok-add_if_gone.ensures.few,
    )
