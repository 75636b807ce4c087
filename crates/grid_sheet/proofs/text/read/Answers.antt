use Rattle.std.proofs.Common.{Bor, List, ℕ, ◌≤◌, ◌∙◌, sym, refl, arith, inl, inr, length, Some, ◌∷◌, []}
use Rattle.std.proofs.lemmas.List.{map-append, length-map, length_push}
use Rattle.std.proofs.lemmas.List.Elements.{All-nil, All-push}
use Rattle.csv.specs.Reading.{Reached, default_config, strip_bom}
use Rattle.csv.specs.Records.{fields_of}
use Rattle.csv.specs.declared.parser.State.TheVariants as st
use Rattle.csv.proofs.ReadFacts.{rows-end, rows-more}
use Rattle.grid_sheet.specs.Rows.{Cells, most_cells, rows_of}
use Rattle.grid_sheet.proofs.ReadLemmas.{IsGrid-read, all_of, too_many_cells, too_many_rows}
use Rattle.grid_sheet.proofs.text.read.Goals as goal

pub rows-init : goal.rows-init
unfolding Reached
rows-init c =
    let from = c.from_reader-reader.ensures in
    let start = c.into_iter-record-iterator.ensures.into_iter_gives in
    let reader = c.into_byte_records-record-items.ensures.rdr in
    let left = c.into_byte_records-record-items.ensures.left in
    rw (start, reader, c.new-rows.ensures.items) record {
      trims = (rw (c.flexible.ensures, c.has_headers.ensures) at from.trim) ∙ c.new.ensures.trim;
      ready = inr (inr (rw (c.flexible.ensures, c.has_headers.ensures) at from.has_headers, from.headers));
      turns = left;
      config = (rw (c.flexible.ensures, c.has_headers.ensures) at from.config) ∙ c.new.ensures.config;
      reached = (strip_bom c.args.contents.now, from.source, (sym from.state, refl));
      few = omega arith;
      short = All-nil (λ (cells : Cells). length cells ≤ most_cells);
    }

pub returns-then-len-ge-MOST_ROWS-clause-refused : goal.returns-then-len-ge-MOST_ROWS-clause-refused
returns-then-len-ge-MOST_ROWS-clause-refused c =
    let inv = c.rows.invariant in
    let rows = c.rows.rows.items in
    let s = rw (c.in-Some.is, c.in-Ok.is) at ((c.next.ensures.steps inv.turns inv.trims).0 inv.ready) in
    let (y, at_y, more) = rows-more (λ (b : Bor (List ℕ)). Some b.now) c.rows.record-iterator.rdr c.next.new.self.rdr (fields_of c.in-Ok.cells) default_config st.StartRecord (strip_bom c.args.contents.now) inv.reached.0 (rows_of rows) inv.config inv.reached.1 inv.reached.2 s.0 in
    let n = length-map rows fields_of in
    too_many_rows c.args.contents.now y c.next.new.self.rdr.state (rows_of rows) (fields_of c.in-Ok.cells) more (omega (arith, n, c.rows.rows.ok.0))

pub returns-then-len-gt-MOST_CELLS-clause-refused : goal.returns-then-len-gt-MOST_CELLS-clause-refused
returns-then-len-gt-MOST_CELLS-clause-refused c =
    let inv = c.rows.invariant in
    let rows = c.rows.rows.items in
    let s = rw (c.in-Some.is, c.in-Ok.is) at ((c.next.ensures.steps inv.turns inv.trims).0 inv.ready) in
    let (y, at_y, more) = rows-more (λ (b : Bor (List ℕ)). Some b.now) c.rows.record-iterator.rdr c.next.new.self.rdr (fields_of c.in-Ok.cells) default_config st.StartRecord (strip_bom c.args.contents.now) inv.reached.0 (rows_of rows) inv.config inv.reached.1 inv.reached.2 s.0 in
    too_many_cells c.args.contents.now y c.next.new.self.rdr.state (rows_of rows) (fields_of c.in-Ok.cells) more (omega arith)

pub rows-preserved : goal.rows-preserved
rows-preserved c =
    let inv = c.rows.invariant in
    let rows = c.rows.rows.items in
    let cells = fields_of c.in-Ok.cells in
    let s = rw (c.in-Some.is, c.in-Ok.is) at ((c.next.ensures.steps inv.turns inv.trims).0 inv.ready) in
    let (y, at_y, more) = rows-more (λ (b : Bor (List ℕ)). Some b.now) c.rows.record-iterator.rdr c.next.new.self.rdr cells default_config st.StartRecord (strip_bom c.args.contents.now) inv.reached.0 (rows_of rows) inv.config inv.reached.1 inv.reached.2 s.0 in
    let items = c.in_ok-push.ensures.items in
    let pushed = map-append fields_of rows (c.in-Ok.cells ∷ []) in
    let n = length_push rows c.in-Ok.cells in
    rw (items, pushed) record {
      trims = s.0.3 ∙ inv.trims;
      ready = inl s.1;
      turns = s.2;
      config = s.0.2 ∙ inv.config;
      reached = (y, at_y, more);
      few = omega (arith, n, c.rows.rows.ok.0);
      short = All-push (λ (row : Cells). length row ≤ most_cells) (rows_of rows) cells inv.short (omega arith);
    }

pub returns-clause-rows : goal.returns-clause-rows
returns-clause-rows c =
    let inv = c.rows.invariant in
    let s = rw c.in-None.is at ((c.next.ensures.steps inv.turns inv.trims).0 inv.ready) in
    let none = rows-end (λ (b : Bor (List ℕ)). Some b.now) c.rows.record-iterator.rdr c.next.new.self.rdr [] default_config inv.reached.0 inv.config inv.reached.1 s in
    all_of c.args.contents.now inv.reached.0 c.rows.record-iterator.rdr.state (rows_of c.rows.rows.items) inv.reached.2 none

pub returns-clause-grid : goal.returns-clause-grid
returns-clause-grid c =
    let inv = c.rows.invariant in
    let rows = c.rows.rows.items in
    let n = length-map rows fields_of in
    let few = inv.few in
    IsGrid-read c.args.contents.now inv.reached.0 c.rows.record-iterator.rdr.state (rows_of rows) inv.reached.2 (omega (arith, n, few)) inv.short
