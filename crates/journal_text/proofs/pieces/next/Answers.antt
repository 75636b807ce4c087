use Rattle.std.proofs.Common.{[], ◌∷◌, subst, arith}
use Rattle.journal_text.specs.declared.pieces.Stage.{Stage}
use Rattle.journal_text.specs.Coming.{IsAt}
use Rattle.journal_text.proofs.PieceLemmas.{all_longer}
use Rattle.journal_text.proofs.pieces.next.Goals as goal

pub returns-in-All : goal.returns-in-All
returns-in-All g c = λ text behind stands.
    let new = g.R.Keeper.is_new in
    let keeps = g.R.Keeper.keeps in
    all_longer keeps text behind c.args.row.now c.args.number c.args.keeper.now c.in-All._reader (10 ∷ []) (omega arith)
    (subst (λ (s : Stage). IsAt new keeps text (10 ∷ behind) c.args.row.now c.args.number c.args.keeper.now s) c.in-All.is stands)
