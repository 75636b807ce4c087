use Rattle.std.proofs.Common.{◌≤◌, ◌+◌, ◌++◌, ◌∷◌, [], ℕ, List, length, ap, refl, subst, sym, ◌∙◌, arith, append-nil}
use Rattle.std.proofs.lemmas.List.{length-append}
use Rattle.journal_text.specs.Coming.{Reaches}
use Rattle.journal_text.proofs.PieceLemmas.{on_ok, piece_ahead}
use Rattle.journal_text.proofs.pieces.LineReader.take_all.Goals as goal

pub rows-init : goal.rows-init
rows-init g c = record {
  come = λ text reaches.
      let old = c.args.self.now in
      piece_ahead g.R.Keeper.is_new g.R.Keeper.keeps text c.args.piece.now old.row.items old.number old.keeper old.stage reaches;
  count = omega arith;
  size = refl;
}

pub take_row-requires-clause-few : goal.take_row-requires-clause-few
take_row-requires-clause-few g c =
    let next = ap length c.in-Some.ensures.some.0 in
    let len = length-append c.in-Some.part.now (10 ∷ c.in-Some.behind.now) in
    let count = c.rows.invariant.count in
    let few = c.requires.few in
    omega (arith, next, len, count, few)

pub take_row-requires-clause-come : goal.take_row-requires-clause-come
take_row-requires-clause-come g c =
    let come = c.requires.come in
    let text = come.0 ++ c.args.piece.now in (
      text,
      c.in-Some.behind.now,
      subst (λ (l : List ℕ). Reaches g.R.Keeper.is_new g.R.Keeper.keeps text l c.rows.self) c.in-Some.ensures.some.0 (c.rows.invariant.come come.0 come.1),
    )

pub rows-preserved : goal.rows-preserved
rows-preserved g c =
    let next = c.in-Some.ensures.some.0 in
    let long = ap length next in
    let len = length-append c.in-Some.part.now (10 ∷ c.in-Some.behind.now) in
    let count = c.rows.invariant.count in
    let one = c.in-Ok.ensures.count in
    record {
      come = λ text reaches.
          c.in-Ok.ensures.taken (text ++ c.args.piece.now) c.in-Some.behind.now
          (subst (λ (l : List ℕ). Reaches g.R.Keeper.is_new g.R.Keeper.keeps (text ++ c.args.piece.now) l c.rows.self) next (c.rows.invariant.come text reaches));
      count = omega (arith, long, len, count, one);
      size = c.in-Ok.ensures.size ∙ c.rows.invariant.size;
    }

pub returns-clause-taken : goal.returns-clause-taken
returns-clause-taken g c =
    on_ok c.lengthen.result _ _
    (λ takes text reaches.
    takes (text ++ c.args.piece.now) []
    (subst (λ (l : List ℕ). Reaches g.R.Keeper.is_new g.R.Keeper.keeps (text ++ c.args.piece.now) l c.rows.self) (sym (append-nil c.rows.rest.now)) (c.rows.invariant.come text reaches)))
    c.lengthen.ensures.taken
