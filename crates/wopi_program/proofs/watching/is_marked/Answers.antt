use Rattle.std.proofs.Common.{◌<◌, length, rules, slice_get, sym, ap, ◌∙◌}
use Rattle.wopi_program.proofs.WatchLemmas.{got_there}
use Rattle.wopi_program.proofs.watching.is_marked.Goals as goal

pub returns : goal.returns
returns c =
    let inside : c.from.result < length c.args.marks.now = search rules in
    ap (slice_get c.args.marks.now) (sym c.from.ensures) ∙ got_there c.args.marks.now c.from.result _ inside
