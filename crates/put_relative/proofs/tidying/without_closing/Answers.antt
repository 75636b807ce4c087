use Rattle.std.proofs.Common.{◌-◌, get_or, sym}
use Rattle.put_relative.specs.CopyNames.{is_closing}
use Rattle.put_relative.proofs.Stems.{kept_at, no_more}
use Rattle.put_relative.proofs.tidying.without_closing.Goals as goal

pub returns : goal.returns
returns c =
    let text = c.args.text.now in
    let end = c.back.end in
    let before = no_more c.is_closed.result (is_closing (get_or text (end - 1) 0)) end c.is_closed.ensures c.back-test.false in
    sym (kept_at text end c.back.invariant.inside c.back.invariant.all before)
