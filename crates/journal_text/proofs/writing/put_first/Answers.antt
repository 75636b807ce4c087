use Rattle.std.proofs.Common.{◌∙◌}
use Rattle.journal_text.proofs.LineTexts.{first_lines, gathers_as}
use Rattle.journal_text.proofs.writing.put_first.Goals as goal

pub returns-clause-bytes : goal.returns-clause-bytes
returns-clause-bytes g c = gathers_as _ _ _ _ _ _ _ (c.first_pieces.ensures ∙ first_lines c.args.opened c.args.first) c.put_pieces.ensures.bytes
