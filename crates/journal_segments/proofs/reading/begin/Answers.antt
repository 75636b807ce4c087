use Rattle.std.proofs.Common.{◌∷◌, length, inl, refl, sym, subst, ap, ◌∙◌, arith}
use Rattle.std.proofs.lemmas.List.{length-append}
use Rattle.line_text.specs.Words.{IsRow}
use Rattle.journal_segments.proofs.Coming.{begun, no_head}
use Rattle.journal_segments.proofs.Fronts.{long_line, long_row}
use Rattle.journal_segments.proofs.reading.begin.Goals as goal

pub returns-then-len-ge-MOST_LINE-clause-stops : goal.returns-then-len-ge-MOST_LINE-clause-stops
returns-then-len-ge-MOST_LINE-clause-stops g c =
    let many = c.if-len-ge-MOST_LINE.true in
    inl (refl, long_row c.args.held.items (subst IsRow c.deref.ensures.value c.in_default.ensures.none) (omega (arith, many)))

pub returns-in_default-clause-on : goal.returns-in_default-clause-on
returns-in_default-clause-on g c = (refl, refl, subst IsRow c.deref.ensures.value c.in_default.ensures.none, omega arith, c.requires.fresh)

pub returns-then-row-ge-MOST_LINE-clause-stops : goal.returns-then-row-ge-MOST_LINE-clause-stops
returns-then-row-ge-MOST_LINE-clause-stops g c =
    let many = c.if-row-ge-MOST_LINE.true in
    let row = c.in-Some.ensures.some in
    inl (refl, long_line c.args.held.items c.in-Some.row.now c.in-Some.behind.now (sym c.deref.ensures.value ∙ row.0) row.1 (omega (arith, many)))

pub returns-in_default-head_read-clause-stops : goal.returns-in_default-head_read-clause-stops
returns-in_default-head_read-clause-stops g c =
    let row = c.in-Some.ensures.some in
    no_head c.args.held.items c.in-Some.row.now c.in-Some.behind.now (sym c.deref.ensures.value ∙ row.0) row.1 c.in_default-head_read.ensures.none

pub go_on-requires-clause-few : goal.go_on-requires-clause-few
go_on-requires-clause-few g c =
    let row = c.in-Some.ensures.some in
    let len = ap length (sym c.deref.ensures.value ∙ row.0) ∙ length-append c.in-Some.row.now (10 ∷ c.in-Some.behind.now) in
    let few = c.requires.few in
    omega (arith, len, few)

pub go_on-requires-clause-at : goal.go_on-requires-clause-at
go_on-requires-clause-at g c =
    let row = c.in-Some.ensures.some in
    let head = c.in-Some-head_read.ensures.some in (
      c.args.held.items,
      begun g.W.Watcher.has_seen c.args.watcher.now c.args.held.items c.in-Some.row.now c.in-Some.behind.now c.in-Some-head_read.head c.new.result (sym c.deref.ensures.value ∙ row.0) head.0 head.1 c.new.ensures.state
          c.new.ensures.timed c.requires.fresh,
    )

pub returns-in-Ok-clause-on : goal.returns-in-Ok-clause-on
returns-in-Ok-clause-on g c =
    let row = c.in-Some.ensures.some in
    let head = c.in-Some-head_read.ensures.some in
    c.in-Ok.ensures.on c.args.held.items
    (begun g.W.Watcher.has_seen c.args.watcher.now c.args.held.items c.in-Some.row.now c.in-Some.behind.now c.in-Some-head_read.head c.new.result (sym c.deref.ensures.value ∙ row.0) head.0 head.1 c.new.ensures.state
    c.new.ensures.timed c.requires.fresh)

pub returns-in-Ok-clause-few : goal.returns-in-Ok-clause-few
returns-in-Ok-clause-few g c =
    let row = c.in-Some.ensures.some in
    let len = ap length (sym c.deref.ensures.value ∙ row.0) ∙ length-append c.in-Some.row.now (10 ∷ c.in-Some.behind.now) in
    let few = c.in-Ok.ensures.few in
    omega (arith, len, few)

pub returns-in-Err-clause-stops : goal.returns-in-Err-clause-stops
returns-in-Err-clause-stops g c =
    let row = c.in-Some.ensures.some in
    let head = c.in-Some-head_read.ensures.some in
    c.in-Err.ensures.stops c.args.held.items
    (begun g.W.Watcher.has_seen c.args.watcher.now c.args.held.items c.in-Some.row.now c.in-Some.behind.now c.in-Some-head_read.head c.new.result (sym c.deref.ensures.value ∙ row.0) head.0 head.1 c.new.ensures.state
    c.new.ensures.timed c.requires.fresh)
