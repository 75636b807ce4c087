use Rattle.std.proofs.Common.{List, ℕ, ◌++◌, sym, subst, arith}
use Rattle.outside.specs.Stream.{GrewByPrefix}
use Rattle.host_table.specs.Writing.{Gathers, IsGathered}
use Rattle.journal_text.specs.declared.text.Format.TheVariants.{Second}
use Rattle.journal_text.specs.Journals.{last_text}
use Rattle.journal_text.specs.Words.{words_of}
use Rattle.journal_text.proofs.Fronts.{Row}
use Rattle.journal_text.proofs.Again.{GoesOn, again_begun, again_ended, again_whole, by_kind, first_cut, next_of}
use Rattle.journal_text.proofs.rewriting.put_rows.Goals as goal

pub returns-in-Err-clause-bytes : goal.returns-in-Err-clause-bytes
returns-in-Err-clause-bytes g c =
    let read = c.requires.read in
    (read.0, read.1, first_cut _ _ c.args.room.now.bytes.items c.args.bytes.now c.args.reader.now read.0 read.1 c.in-Err.ensures.bytes)

pub rows-init : goal.rows-init
rows-init g c =
    let read = c.requires.read in
    record {
      goes = (
        read.0,
        read.1,
        again_begun _ _ _ _ c.args.bytes.now _ _ c.args.reader.now read.0 read.1 c.requires.form c.in-Ok.ensures.bytes c.start_times-nows.ensures c.behind_first-left.ensures,
      );
      counts = c.in-Ok.ensures.never_falls;
    }

pub returns-in-Err-put_row-clause-bytes : goal.returns-in-Err-put_row-clause-bytes
returns-in-Err-put_row-clause-bytes g c =
    let goes = c.rows.invariant.goes in
    let row : Row c.rows.left.now c.in-Some.row.now c.in-Some.behind.now = record { cut = c.in-Some.ensures.some.0; line = c.in-Some.ensures.some.1 } in
    let next = next_of _ _ _ _ _ _ _ _ goes.0 goes.2 row in
    let put = by_kind (λ (l : List ℕ). GrewByPrefix (g.K.Sink.held c.rows.sink) (g.K.Sink.held c.put_row.new.sink) (c.rows.room.bytes.items ++ l)) (words_of c.in-Some.row.now) c.rows.nows c.put_row.new.nows
    next.piece next.after c.in-Err-put_row.ensures.file c.in-Err-put_row.ensures.line c.in-Err-put_row.ensures.last next.again in
    (goes.0, goes.1, next.cut _ put.0)

pub rows-preserved : goal.rows-preserved
rows-preserved g c =
    let goes = c.rows.invariant.goes in
    let row : Row c.rows.left.now c.in-Some.row.now c.in-Some.behind.now = record { cut = c.in-Some.ensures.some.0; line = c.in-Some.ensures.some.1 } in
    let next = next_of _ _ _ _ _ _ _ _ goes.0 goes.2 row in
    let put = by_kind (λ (l : List ℕ). IsGathered (g.K.Sink.held c.rows.sink) (g.K.Sink.held c.put_row.new.sink) c.rows.room.bytes.items c.put_row.new.room.bytes.items l) (words_of c.in-Some.row.now)
    c.rows.nows c.put_row.new.nows next.piece next.after c.in-Ok-put_row.ensures.file c.in-Ok-put_row.ensures.line c.in-Ok-put_row.ensures.last next.again in
    let counts = c.rows.invariant.counts in
    record {
      goes = (
        goes.0,
        goes.1,
        subst (λ (n : List ℕ). GoesOn (g.K.Sink.held c.args.sink.now) (g.K.Sink.held c.put_row.new.sink) c.args.room.now.bytes.items c.put_row.new.room.bytes.items c.in-Some.behind.now n goes.0) (sym put.1)
            (next.on _ _ put.0),
      );
      counts = omega (arith, counts, c.in-Ok-put_row.ensures.never_falls);
    }

pub returns-clause-bytes : goal.returns-clause-bytes
returns-clause-bytes g c =
    let goes = c.rows.invariant.goes in
    let ended = again_ended _ _ _ _ _ _ goes.0 goes.2 c.in_default.ensures.none in
    let last = subst (λ (n : ℕ). Gathers (g.K.Sink.held c.rows.sink) (g.K.Sink.held c.put_last.new.sink) c.rows.room.bytes.items c.put_last.new.room.bytes.items c.put_last.result (last_text Second n)) goes.1.reader_is.entries
    c.put_last.ensures.bytes in
    (goes.0, goes.1, again_whole _ _ _ _ _ _ _ c.put_last.result goes.0 ended last)
