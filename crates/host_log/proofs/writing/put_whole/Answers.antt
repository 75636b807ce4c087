use Rattle.std.proofs.Common.{ℕ, List, Option, ap, ◌∙◌, ◌++◌, subst}
use Rattle.outside.specs.Stream.{GrewByPrefix}
use Rattle.host_table.specs.Writing.{IsGathered}
use Rattle.host_table.proofs.WritingLemmas.{cut_longer, gathers_then}
use Rattle.host_log.specs.Rows.{at_line, size_in}
use Rattle.host_log.proofs.writing.put_whole.Goals as goal

pub returns-in-Err-clause-bytes : goal.returns-in-Err-clause-bytes
returns-in-Err-clause-bytes g c =
    let file = c.args.file.now in
    let A : List ℕ = at_line file.name file.version (size_in file.contents) in
    let at = c.at_pieces.ensures ∙ ap (λ (s : Option ℕ). at_line file.name file.version s) c.size_of.ensures in
    cut_longer _ _ _ A _ (subst (λ (l : List ℕ). GrewByPrefix (g.L.Sink.held c.args.log.now) (g.L.Sink.held c.put_pieces.new.sink) (c.args.room.now.bytes.items ++ l)) at c.in-Err.ensures.bytes)

pub returns-clause-bytes : goal.returns-clause-bytes
returns-clause-bytes g c =
    let file = c.args.file.now in
    let A : List ℕ = at_line file.name file.version (size_in file.contents) in
    let at = c.at_pieces.ensures ∙ ap (λ (s : Option ℕ). at_line file.name file.version s) c.size_of.ensures in
    let first = subst (λ (l : List ℕ). IsGathered (g.L.Sink.held c.args.log.now) (g.L.Sink.held c.put_pieces.new.sink) c.args.room.now.bytes.items c.put_pieces.new.room.bytes.items l) at c.in-Ok.ensures.bytes in
    gathers_then _ _ _ _ _ _ _ A _ first c.put_locks.ensures.bytes
