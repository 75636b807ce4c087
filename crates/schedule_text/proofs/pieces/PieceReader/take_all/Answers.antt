use Rattle.std.proofs.Common.{◌++◌, ℕ, List, subst}
use Rattle.line_text.specs.Words.{IsRow}
use Rattle.schedule_text.specs.Pieces.{HasCome}
use Rattle.schedule_text.proofs.PieceLemmas.{one_room, rest_taken}
use Rattle.schedule_text.proofs.pieces.PieceReader.take_all.Goals as goal

pub returns-in-Err-clause-taken : goal.returns-in-Err-clause-taken
returns-in-Err-clause-taken c = λ text come.
    let next = c.in-Some.ensures.some.0 in
    c.in-Err.ensures.refused (text ++ c.args.piece.now) c.in-Some.behind.now
    (subst (λ (l : List ℕ). HasCome (text ++ c.args.piece.now) l c.rows.self) next (c.rows.invariant.come text come))

pub rows-preserved : goal.rows-preserved
rows-preserved c =
    let next = c.in-Some.ensures.some.0 in
    record {
      come = λ text come.
          c.in-Ok.ensures.taken (text ++ c.args.piece.now) c.in-Some.behind.now
          (subst (λ (l : List ℕ). HasCome (text ++ c.args.piece.now) l c.rows.self) next (c.rows.invariant.come text come));
      ready = c.in-Ok.ensures.ready;
      room = one_room c.args.self.now c.rows.self c.take_row.new.self c.args.piece.now c.in-Some.part.now c.in-Some.behind.now c.rows.rest.now next
          c.in-Ok.ensures.smaller c.rows.invariant.room;
    }

pub returns-clause-taken : goal.returns-clause-taken
returns-clause-taken c = λ text come.
    let none : IsRow c.rows.rest.now = c.in_default.ensures.none in
    rest_taken (text ++ c.args.piece.now) c.rows.rest.now c.rows.self c.lengthen.new.self c.lengthen.result none (c.rows.invariant.come text come)
    c.lengthen.ensures.ok c.lengthen.ensures.refused
