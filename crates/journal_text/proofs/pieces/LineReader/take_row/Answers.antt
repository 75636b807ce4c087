use Rattle.std.proofs.Common.{◌∷◌}
use Rattle.journal_text.proofs.PieceLemmas.{on_ok}
use Rattle.journal_text.proofs.pieces.LineReader.take_row.Goals as goal

pub end_row-requires-clause-come : goal.end_row-requires-clause-come
end_row-requires-clause-come g c =
    let come = c.requires.come in
    (come.0, come.1, c.in-Ok.ensures.taken come.0 (10 ∷ come.1) come.2)

pub returns-in-Ok-clause-taken : goal.returns-in-Ok-clause-taken
returns-in-Ok-clause-taken g c =
    on_ok c.end_row.result _ _ (λ takes text behind reaches. takes text behind (c.in-Ok.ensures.taken text (10 ∷ behind) reaches)) c.end_row.ensures.taken
