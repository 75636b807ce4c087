use Rattle.std.proofs.Common.{ℕ, List, Some, ap, ◌∙◌, subst}
use Rattle.host_table.specs.Writing.{Gathers}
use Rattle.host_log.specs.Rows.{at_line}
use Rattle.host_log.proofs.Texts.{opened_at}
use Rattle.host_log.proofs.writing.put_opened.Goals as goal

pub returns-clause-bytes : goal.returns-clause-bytes
returns-clause-bytes g c =
    let file = c.args.file.now in
    let line = c.at_pieces.ensures ∙ ap (λ (n : ℕ). at_line file.name c.args.first (Some n)) c.bytes_of.ensures ∙ opened_at c.args.first file in
    subst (λ (l : List ℕ). Gathers (g.L.Sink.held c.args.log.now) (g.L.Sink.held c.put_pieces.new.sink) c.args.room.now.bytes.items c.put_pieces.new.room.bytes.items c.put_pieces.result l) line c.put_pieces.ensures.bytes
