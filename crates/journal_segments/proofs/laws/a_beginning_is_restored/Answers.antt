use Rattle.journal_segments.proofs.Written.{begins, begun_tells}
use Rattle.journal_segments.proofs.Texts.{written_is_segment}
use Rattle.journal_segments.proofs.laws.a_beginning_is_restored.Goals as goal

pub returns-clause-rows : goal.returns-clause-rows
returns-clause-rows c = begins

pub returns-clause-told : goal.returns-clause-told
returns-clause-told c = begun_tells

pub returns-clause-text : goal.returns-clause-text
returns-clause-text c = written_is_segment
