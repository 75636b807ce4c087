use Rattle.std.proofs.Common.{◌∙◌, ap}
use Rattle.host_table.specs.Text.{file_line}
use Rattle.journal_text.proofs.LineTexts.{file_lines, gathers_as}
use Rattle.journal_text.proofs.writing.put_file.Goals as goal

pub returns-clause-bytes : goal.returns-clause-bytes
returns-clause-bytes g c =
    gathers_as _ _ _ _ _ _ _ (c.file_pieces.ensures ∙ ap (λ contents. file_line (c.args.file.now.0, contents)) c.as_slice.ensures ∙ file_lines c.args.file.now) c.put_pieces.ensures.bytes
