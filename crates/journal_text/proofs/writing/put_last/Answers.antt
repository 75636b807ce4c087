use Rattle.std.proofs.Common.{◌∙◌}
use Rattle.journal_text.proofs.LineTexts.{last_lines, gathers_as}
use Rattle.journal_text.proofs.writing.put_last.Goals as goal

pub returns-clause-bytes : goal.returns-clause-bytes
returns-clause-bytes g c = gathers_as _ _ _ _ _ _ _ (c.last_pieces.ensures ∙ last_lines c.args.entries) c.put_pieces.ensures.bytes
