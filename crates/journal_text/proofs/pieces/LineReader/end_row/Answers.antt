use Rattle.std.proofs.Common.{◌+◌, ◌∷◌, ℕ, List, subst, sym}
use Rattle.journal_text.specs.declared.pieces.Stage.{Stage}
use Rattle.journal_text.specs.Coming.{IsAt}
use Rattle.journal_text.proofs.pieces.LineReader.end_row.Goals as goal

pub next-requires-clause-stands : goal.next-requires-clause-stands
next-requires-clause-stands g c =
    let come = c.requires.come in
    let old = c.args.self.now in
    let P : List ℕ × Stage → Type 0 = λ p. IsAt g.R.Keeper.is_new g.R.Keeper.keeps come.0 (10 ∷ come.1) p.0 old.number old.keeper p.1 in
    (come.0, come.1, subst P (λ i. (sym c.deref.ensures.value i, sym c.replace-stage.ensures.value i)) come.2)

pub returns-clause-taken : goal.returns-clause-taken
returns-clause-taken g c = λ text behind reaches.
    let old = c.args.self.now in
    let P : List ℕ × Stage → Type 0 = λ p. IsAt g.R.Keeper.is_new g.R.Keeper.keeps text (10 ∷ behind) p.0 old.number old.keeper p.1 in
    subst (λ (l : List ℕ). IsAt g.R.Keeper.is_new g.R.Keeper.keeps text behind l (old.number + 1) c.next.new.keeper c.in-Ok.stage) (sym c.clear.ensures.items)
    (c.in-Ok.ensures text behind (subst P (λ i. (sym c.deref.ensures.value i, sym c.replace-stage.ensures.value i)) reaches))
