use Rattle.std.proofs.Common.{List, ℕ, [], ◌++◌, length, subst}
use Rattle.std.specs.List.{flat_map}
use Rattle.outside.specs.Stream.{GrewByPrefix}
use Rattle.host_table.specs.Writing.{IsGathered}
use Rattle.host_table.proofs.WritingLemmas.{all_sent}
use Rattle.journal_text.specs.declared.text.Format.TheVariants.{Second}
use Rattle.journal_text.specs.Journals.{file_text, first_text, last_text, line_text, rows_of, text_of}
use Rattle.journal_text.proofs.Outcomes.{whole_text}
use Rattle.journal_text.proofs.writing.write_lines_into.Goals as goal

pub returns-in-Err-clause-bytes : goal.returns-in-Err-clause-bytes
returns-in-Err-clause-bytes g c =
    let t = c.args.text.now in
    subst (λ (l : List ℕ). GrewByPrefix (g.K.Sink.held c.args.sink.now) (g.K.Sink.held c.put_all.new.sink) l) (whole_text Second t)
    (subst (λ (l : List ℕ). GrewByPrefix (g.K.Sink.held c.args.sink.now) (g.K.Sink.held c.put_all.new.sink)
    (l ++ (first_text Second t.opened t.first ++ (flat_map file_text t.files ++ (flat_map (line_text Second) t.lines ++ last_text Second (length t.lines))))))
    c.clear.ensures.items c.in-Err.ensures.bytes)

pub returns-clause-bytes : goal.returns-clause-bytes
returns-clause-bytes g c =
    let t = c.args.text.now in
    let text : List ℕ = first_text Second t.opened t.first ++ (flat_map file_text t.files ++ (flat_map (line_text Second) t.lines ++ last_text Second (length t.lines))) in
    let first = subst (λ (l : List ℕ). IsGathered (g.K.Sink.held c.args.sink.now) (g.K.Sink.held c.put_all.new.sink) l c.put_all.new.room.bytes.items text) c.clear.ensures.items c.in-Ok.ensures.bytes in
    let whole = subst (λ (l : List ℕ). IsGathered (g.K.Sink.held c.args.sink.now) (g.K.Sink.held c.put_all.new.sink) [] c.put_all.new.room.bytes.items l) (whole_text Second t) first in
    all_sent _ _ _ c.put_all.new.room.bytes.items c.send.new.room.bytes.items (text_of (rows_of Second t)) _ whole c.send.ensures.bytes c.send.ensures.none
