use Rattle.journal_text.proofs.PieceLemmas.{lines_begun, not_begun}
use Rattle.journal_text.proofs.pieces.begin.Goals as goal

pub returns-in_default : goal.returns-in_default
returns-in_default g c = λ text behind first. not_begun g.R.Keeper.is_new text behind c.args.row.now c.args.keeper.now first c.in_default.ensures.none

pub returns : goal.returns
returns g c = λ text behind first.
    let opening = c.in-Some.opening in
    lines_begun g.R.Keeper.is_new g.R.Keeper.keeps text behind c.args.row.now c.args.keeper.now c.begin.new.self c.new.result opening.form opening.opened opening.first first
    c.in-Some.ensures.some.1 c.in_ok-begin.ensures c.new.ensures.form c.new.ensures.reader
