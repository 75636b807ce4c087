use Rattle.std.proofs.Common.{[], append-nil, sym, refl, ◌∙◌}
use Rattle.journal_text.specs.Words.{file_words}
use Rattle.journal_text.specs.Journals.{file_text}
use Rattle.journal_text.proofs.LineTexts.{gathers_as}
use Rattle.journal_text.proofs.Rows.{row_of_words}
use Rattle.journal_text.proofs.rewriting.put_row.Goals as goal

pub returns-then-is_file-clause-file : goal.returns-then-is_file-clause-file
returns-then-is_file-clause-file g c = λ file form is.
    (gathers_as _ _ _ _ _ _ _ (row_of_words c.args.row.now [] (file_words file) is ∙ append-nil (file_text file)) c.put_pieces.ensures.bytes, refl)

pub returns-then-is_file-clause-last : goal.returns-then-is_file-clause-last
returns-then-is_file-clause-last g c = λ entries is. absurd (cc (sym c.if-is_file.true ∙ c.is_file.ensures.last entries is))
