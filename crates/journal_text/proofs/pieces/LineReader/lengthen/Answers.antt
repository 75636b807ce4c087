use Rattle.std.proofs.Common.{◌<◌, ◌++◌, length, subst, rules}
use Rattle.journal_text.specs.declared.pieces.Stage.{Stage}
use Rattle.journal_text.specs.Coming.{IsAt}
use Rattle.journal_text.proofs.PieceLemmas.{all_longer}
use Rattle.journal_text.proofs.pieces.LineReader.lengthen.Goals as goal

pub returns-clause-taken : goal.returns-clause-taken
returns-clause-taken g c = λ text ahead reaches.
    let some : 0 < length c.args.part.now = search rules in
    let new = g.R.Keeper.is_new in
    let keeps = g.R.Keeper.keeps in
    let old = c.args.self.now in
    all_longer keeps text ahead old.row.items old.number old.keeper c.in-All.field-0 c.args.part.now some
    (subst (λ (s : Stage). IsAt new keeps text (c.args.part.now ++ ahead) old.row.items old.number old.keeper s) c.in-All.is reaches)
