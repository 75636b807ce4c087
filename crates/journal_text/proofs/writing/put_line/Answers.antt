use Rattle.std.proofs.Common.{List, ℕ, ◌++◌, subst}
use Rattle.outside.specs.Stream.{GrewByPrefix}
use Rattle.journal_text.specs.Written.{begin_text, end_text}
use Rattle.journal_text.proofs.LineTexts.{gathers_as, line_halves}
use Rattle.host_table.proofs.WritingLemmas.{cut_longer, gathers_then}
use Rattle.journal_text.proofs.writing.put_line.Goals as goal

pub returns-in-Err-clause-bytes : goal.returns-in-Err-clause-bytes
returns-in-Err-clause-bytes g c =
    subst (λ (l : List ℕ). GrewByPrefix (g.K.Sink.held c.args.sink.now) (g.K.Sink.held c.put_call.new.sink) (c.args.room.now.bytes.items ++ l)) (line_halves c.args.line.now)
    (cut_longer _ _ _ (begin_text c.args.line.now) (end_text c.args.line.now) c.in-Err.ensures.bytes)

pub returns-clause-bytes : goal.returns-clause-bytes
returns-clause-bytes g c =
    gathers_as _ _ _ _ _ _ _ (line_halves c.args.line.now)
    (gathers_then _ _ _ _ _ _ _ (begin_text c.args.line.now) (end_text c.args.line.now) c.in-Ok.ensures.bytes c.put_ruling.ensures.bytes)
