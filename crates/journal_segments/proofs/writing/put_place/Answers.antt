use Rattle.std.proofs.Common.{◌++◌, ℕ, List, Option, ap, ◌∙◌, subst}
use Rattle.std.specs.List.{flat_map}
use Rattle.outside.specs.Stream.{GrewByPrefix}
use Rattle.host_table.specs.Writing.{IsGathered}
use Rattle.host_table.proofs.WritingLemmas.{cut_after, cut_longer, gathers_then}
use Rattle.journal_text.specs.Journals.{row_text}
use Rattle.journal_segments.specs.Told.{size_told}
use Rattle.journal_segments.specs.Rows.{at_words}
use Rattle.journal_segments.specs.Openings.{held_text, spent_text}
use Rattle.journal_segments.proofs.writing.put_place.Goals as goal

pub returns-in-Err-clause-bytes : goal.returns-in-Err-clause-bytes
returns-in-Err-clause-bytes g c =
    let file = c.args.file.now in
    let A : List ℕ = row_text (at_words file.0 file.1.version (size_told file.1.contents)) in
    let B : List ℕ = held_text file.0 file.1.lock ++ flat_map (spent_text file.0) file.1.spent in
    let at = c.at_pieces.ensures ∙ ap (λ (n : ℕ). row_text (at_words file.0 n c.size.result)) c.version.ensures ∙ ap (λ (s : Option ℕ). row_text (at_words file.0 file.1.version s)) c.size.ensures in
    cut_longer _ _ _ A B (subst (λ (l : List ℕ). GrewByPrefix (g.K.Sink.held c.args.sink.now) (g.K.Sink.held c.put_pieces.new.sink) (c.args.room.now.bytes.items ++ l)) at c.in-Err.ensures.bytes)

pub returns-in-Err-put_held-clause-bytes : goal.returns-in-Err-put_held-clause-bytes
returns-in-Err-put_held-clause-bytes g c =
    let file = c.args.file.now in
    let A : List ℕ = row_text (at_words file.0 file.1.version (size_told file.1.contents)) in
    let H : List ℕ = held_text file.0 file.1.lock in
    let S : List ℕ = flat_map (spent_text file.0) file.1.spent in
    let at = c.at_pieces.ensures ∙ ap (λ (n : ℕ). row_text (at_words file.0 n c.size.result)) c.version.ensures ∙ ap (λ (s : Option ℕ). row_text (at_words file.0 file.1.version s)) c.size.ensures in
    let first = subst (λ (l : List ℕ). IsGathered (g.K.Sink.held c.args.sink.now) (g.K.Sink.held c.put_pieces.new.sink) c.args.room.now.bytes.items c.put_pieces.new.room.bytes.items l) at c.in-Ok.ensures.bytes in
    let held = rw c.lock.ensures at c.in-Err-put_held.ensures.bytes in
    cut_after _ _ _ _ _ A (H ++ S) first (cut_longer _ _ _ H S held)

pub returns-clause-bytes : goal.returns-clause-bytes
returns-clause-bytes g c =
    let file = c.args.file.now in
    let A : List ℕ = row_text (at_words file.0 file.1.version (size_told file.1.contents)) in
    let H : List ℕ = held_text file.0 file.1.lock in
    let S : List ℕ = flat_map (spent_text file.0) file.1.spent in
    let at = c.at_pieces.ensures ∙ ap (λ (n : ℕ). row_text (at_words file.0 n c.size.result)) c.version.ensures ∙ ap (λ (s : Option ℕ). row_text (at_words file.0 file.1.version s)) c.size.ensures in
    let first = subst (λ (l : List ℕ). IsGathered (g.K.Sink.held c.args.sink.now) (g.K.Sink.held c.put_pieces.new.sink) c.args.room.now.bytes.items c.put_pieces.new.room.bytes.items l) at c.in-Ok.ensures.bytes in
    let held = rw c.lock.ensures at c.in-Ok-put_held.ensures.bytes in
    let spent = rw c.spent.ensures at c.put_all_spent.ensures.bytes in
    gathers_then _ _ _ _ _ _ _ A (H ++ S) first (gathers_then _ _ _ _ _ _ _ H S held spent)
