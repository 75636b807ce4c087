use Rattle.std.proofs.Common.{◌≡◌, ◌+◌, ◌++◌, ◌∷◌, ℕ, List, Option, Some, length, refl, subst, ap, ◌∙◌, arith}
use Rattle.std.proofs.lemmas.List.{length-append}
use Rattle.std.proofs.lemmas.Result.{IfOk-weaker}
use Rattle.line_text.specs.Words.{words_of}
use Rattle.journal_segments.specs.declared.walking.Front.{Front}
use Rattle.journal_segments.specs.Reading.{Stands, StandsBehind}
use Rattle.journal_segments.specs.Rows.{IsLine, words_with}
use Rattle.journal_segments.proofs.Fronts.{alone, has_line, long_line, long_row, stands_behind, unread, unwanted, waits_row}
use Rattle.journal_segments.proofs.walking.front_of.Goals as goal

pub returns-then-text-ge-MOST_LINE : goal.returns-then-text-ge-MOST_LINE
returns-then-text-ge-MOST_LINE c =
    let many = c.if-text-ge-MOST_LINE.true in long_row c.args.text.now c.in_default.ensures.none (omega (arith, many))

pub returns-in_default : goal.returns-in_default
returns-in_default c = waits_row c.args.state.now c.args.text.now (length c.args.text.now + 1) c.in_default.ensures.none refl

pub returns-then-line-ge-MOST_LINE : goal.returns-then-line-ge-MOST_LINE
returns-then-line-ge-MOST_LINE c =
    let many = c.if-line-ge-MOST_LINE.true in
    let row = c.in-Some.ensures.some in
    long_line c.args.text.now c.in-Some.line.now c.in-Some.behind.now row.0 row.1 (omega (arith, many))

pub returns-in_default-row_read : goal.returns-in_default-row_read
returns-in_default-row_read c =
    let text = c.args.text.now in
    let line = c.in-Some.line.now in
    let behind = c.in-Some.behind.now in
    let row = c.in-Some.ensures.some in
    (has_line text line behind row.0 row.1, unread c.args.state.now text line behind row.0 row.1 c.in_default-row_read.ensures.none)

pub returns-then-not-may_come : goal.returns-then-not-may_come
returns-then-not-may_come c =
    let text = c.args.text.now in
    let line = c.in-Some.line.now in
    let behind = c.in-Some.behind.now in
    let row = c.in-Some.ensures.some in
    let read = c.in-Some-row_read.ensures.some in (
      has_line text line behind row.0 row.1,
      unwanted c.args.state.now text line behind c.in-Some-row_read.row c.in-Some-row_read.size row.0 read.0 read.1
          (λ comes. absurd (cc (c.may_come.ensures.1 comes, c.if-not-may_come.true))),
    )

pub returns-in-None : goal.returns-in-None
returns-in-None c =
    let row = c.in-Some.ensures.some in
    let read = c.in-Some-row_read.ensures.some in
    alone c.args.state.now c.args.text.now c.in-Some.line.now c.in-Some.behind.now c.in-Some-row_read.row c.in-Some-row_read.size row.0 read.0 read.1
    (c.may_come.ensures.0 c.if-not-may_come.false) c.in-None.is

pub contents_front-requires : goal.contents_front-requires
contents_front-requires c =
    let row = c.in-Some.ensures.some in
    let len = ap length row.0 ∙ length-append c.in-Some.line.now (10 ∷ c.in-Some.behind.now) in
    let few = c.requires in
    omega (arith, len, few)

pub returns-in-Some-size : goal.returns-in-Some-size
returns-in-Some-size c =
    let state = c.args.state.now in
    let text = c.args.text.now in
    let line = c.in-Some.line.now in
    let behind = c.in-Some.behind.now in
    let one = c.in-Some-row_read.row in
    let size = c.in-Some-size.size in
    let row = c.in-Some.ensures.some in
    let read = c.in-Some-row_read.ensures.some in
    let is : IsLine one (Some size) = subst (λ (n : Option ℕ). IsLine one n) c.in-Some-size.is read.0 in
    let said : words_of line ≡ words_with one (Some size) = read.1 ∙ ap (λ (n : Option ℕ). words_with one n) c.in-Some-size.is in
    let comes = c.may_come.ensures.0 c.if-not-may_come.false in
    let here : (found : Front) → StandsBehind one size (length line) behind found → Stands state text found =
    λ found stands. stands_behind state text line behind size one found row.0 row.1 is said comes stands in
    IfOk-weaker c.contents_front.result (StandsBehind one size (length line) behind) (Stands state text) here c.contents_front.ensures
