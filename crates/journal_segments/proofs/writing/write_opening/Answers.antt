use Rattle.std.proofs.Common.{◌++◌, ℕ, List, subst}
use Rattle.std.specs.List.{flat_map}
use Rattle.outside.specs.Stream.{GrewByPrefix}
use Rattle.host_table.specs.Writing.{IsGathered}
use Rattle.host_table.proofs.WritingLemmas.{all_sent, cut_after, cut_longer, gathered_then}
use Rattle.journal_text.specs.Journals.{row_text}
use Rattle.journal_segments.specs.Rows.{head_words}
use Rattle.journal_segments.specs.Openings.{place_text}
use Rattle.journal_segments.proofs.writing.write_opening.Goals as goal

pub returns-in-Err-clause-bytes : goal.returns-in-Err-clause-bytes
returns-in-Err-clause-bytes g c =
    let A : List ℕ = row_text (head_words c.args.head.now) in
    let S : List ℕ = flat_map place_text c.args.files.now in
    let a = g.K.Sink.held c.args.sink.now in
    let b = g.K.Sink.held c.put_pieces.new.sink in
    let first = subst (λ (l : List ℕ). GrewByPrefix a b (c.clear.new.self.items ++ l)) c.head_pieces.ensures c.in-Err.ensures.bytes in
    subst (λ (l : List ℕ). GrewByPrefix a b (l ++ (A ++ S))) c.clear.ensures.items (cut_longer a b c.clear.new.self.items A S first)

pub returns-in-Err-put_places-clause-bytes : goal.returns-in-Err-put_places-clause-bytes
returns-in-Err-put_places-clause-bytes g c =
    let A : List ℕ = row_text (head_words c.args.head.now) in
    let S : List ℕ = flat_map place_text c.args.files.now in
    let a = g.K.Sink.held c.args.sink.now in
    let b = g.K.Sink.held c.put_pieces.new.sink in
    let d = g.K.Sink.held c.put_places.new.sink in
    let first = subst (λ (l : List ℕ). IsGathered a b c.clear.new.self.items c.put_pieces.new.room.bytes.items l) c.head_pieces.ensures c.in-Ok.ensures.bytes in
    subst (λ (l : List ℕ). GrewByPrefix a d (l ++ (A ++ S))) c.clear.ensures.items
    (cut_after a b d c.clear.new.self.items c.put_pieces.new.room.bytes.items A S first c.in-Err-put_places.ensures.bytes)

pub returns-clause-bytes : goal.returns-clause-bytes
returns-clause-bytes g c =
    let A : List ℕ = row_text (head_words c.args.head.now) in
    let S : List ℕ = flat_map place_text c.args.files.now in
    let a = g.K.Sink.held c.args.sink.now in
    let b = g.K.Sink.held c.put_pieces.new.sink in
    let d = g.K.Sink.held c.put_places.new.sink in
    let first = subst (λ (l : List ℕ). IsGathered a b c.clear.new.self.items c.put_pieces.new.room.bytes.items l) c.head_pieces.ensures c.in-Ok.ensures.bytes in
    let both = gathered_then a b d c.clear.new.self.items c.put_pieces.new.room.bytes.items c.put_places.new.room.bytes.items A S first c.in-Ok-put_places.ensures.bytes in
    let whole = subst (λ (l : List ℕ). IsGathered a d l c.put_places.new.room.bytes.items (A ++ S)) c.clear.ensures.items both in
    all_sent a d _ c.put_places.new.room.bytes.items c.send.new.room.bytes.items (A ++ S) _ whole c.send.ensures.bytes c.send.ensures.none
