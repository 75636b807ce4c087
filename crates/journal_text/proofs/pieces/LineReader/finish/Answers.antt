use Rattle.std.proofs.Common.{[], subst}
use Rattle.journal_text.specs.declared.pieces.Stage.{Stage}
use Rattle.journal_text.specs.Coming.{IsAt}
use Rattle.journal_text.proofs.PieceLemmas.{ends_bad, ends_early, ends_first, ends_well}
use Rattle.journal_text.proofs.pieces.LineReader.finish.Goals as goal

pub returns-in-First : goal.returns-in-First
returns-in-First g c = λ text reaches.
    let self = c.args.self in
    ends_first g.R.Keeper.is_new text self.row.items self.number self.keeper
    (subst (λ (s : Stage). IsAt g.R.Keeper.is_new g.R.Keeper.keeps text [] self.row.items self.number self.keeper s) c.in-First.is reaches)

pub returns-in-Lines : goal.returns-in-Lines
returns-in-Lines g c = λ text reaches.
    let self = c.args.self in
    ends_early g.R.Keeper.keeps text self.row.items self.number self.keeper c.in-Lines._reader
    (subst (λ (s : Stage). IsAt g.R.Keeper.is_new g.R.Keeper.keeps text [] self.row.items self.number self.keeper s) c.in-Lines.is reaches)

pub returns-in-All : goal.returns-in-All
returns-in-All g c = λ text reaches.
    let self = c.args.self in
    ends_well g.R.Keeper.keeps text self.row.items self.number self.keeper c.in-All.reader
    (subst (λ (s : Stage). IsAt g.R.Keeper.is_new g.R.Keeper.keeps text [] self.row.items self.number self.keeper s) c.in-All.is reaches)

pub returns-in-Bad : goal.returns-in-Bad
returns-in-Bad g c = λ text reaches.
    let self = c.args.self in
    ends_bad text c.in-Bad.line
    (subst (λ (s : Stage). IsAt g.R.Keeper.is_new g.R.Keeper.keeps text [] self.row.items self.number self.keeper s) c.in-Bad.is reaches)
