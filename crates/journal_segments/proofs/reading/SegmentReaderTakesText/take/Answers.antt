use Rattle.std.proofs.Common.{◌≡◌, ◌++◌, ℕ, List, length, ap, subst, sym, ◌∙◌, arith}
use Rattle.std.proofs.lemmas.List.{length-append}
use Rattle.journal_segments.specs.declared.reading.Stage.{Stage}
use Rattle.journal_segments.specs.Reading.{Reaches}
use Rattle.journal_segments.proofs.reading.SegmentReaderTakesText.take.Goals as goal

pub overflow_add-self : goal.overflow_add-self
overflow_add-self g c =
    let (text, come) = c.requires.come in
    let few = come.few in
    let size = come.size in
    let fits = c.requires.fits in
    omega (arith, few, size, fits)

pub returns-then-self-gt-MOST_BYTES-clause-refused : goal.returns-then-self-gt-MOST_BYTES-clause-refused
returns-then-self-gt-MOST_BYTES-clause-refused g c = λ text come.
    let len = length-append text c.args.piece.now in
    let size = come.size in
    let many = c.if-self-gt-MOST_BYTES.true in
    omega (arith, len, size, many)

pub go-requires-clause-few : goal.go-requires-clause-few
go-requires-clause-few g c =
    let (text, come) = c.requires.come in
    let len = ap length c.in-Ok.ensures ∙ length-append c.replace-held.result.items c.args.piece.now in
    let held = ap (λ v. length v.items) c.replace-held.ensures.value in
    let count = come.count in
    let size = come.size in
    let few = c.if-self-gt-MOST_BYTES.false in
    omega (arith, len, held, count, size, few)

pub go-requires-clause-at : goal.go-requires-clause-at
go-requires-clause-at g c =
    let (text, come) = c.requires.come in
    let old = c.args.self.now in (
      text,
      c.args.piece.now,
      old.held.items,
      subst (λ (s : Stage). Reaches g.W.Watcher.has_seen old.watcher text s old.number old.held.items old.wanted) (sym c.replace-stage.ensures.value) come.reaches,
      c.in-Ok.ensures ∙ ap (λ v. v.items ++ c.args.piece.now) c.replace-held.ensures.value,
    )

pub returns-in-Err-go-clause-refused : goal.returns-in-Err-go-clause-refused
returns-in-Err-go-clause-refused g c = λ text come.
    let old = c.args.self.now in
    c.in-Err-go.ensures.stops text c.args.piece.now old.held.items
    (subst (λ (s : Stage). Reaches g.W.Watcher.has_seen old.watcher text s old.number old.held.items old.wanted) (sym c.replace-stage.ensures.value) come.reaches)
    (c.in-Ok.ensures ∙ ap (λ v. v.items ++ c.args.piece.now) c.replace-held.ensures.value)

pub returns-clause-taken : goal.returns-clause-taken
returns-clause-taken g c = λ text come.
    let old = c.args.self.now in
    let all = length-append text c.args.piece.now in
    let len = ap length c.in-Ok.ensures ∙ length-append c.replace-held.result.items c.args.piece.now in
    let held = ap (λ v. length v.items) c.replace-held.ensures.value in
    let count = come.count in
    let size = come.size in
    let more = c.in-Ok-go.ensures.few in
    let few = c.if-self-gt-MOST_BYTES.false in
    record {
      reaches = c.in-Ok-go.ensures.on text c.args.piece.now old.held.items
          (subst (λ (s : Stage). Reaches g.W.Watcher.has_seen old.watcher text s old.number old.held.items old.wanted) (sym c.replace-stage.ensures.value) come.reaches)
          (c.in-Ok.ensures ∙ ap (λ v. v.items ++ c.args.piece.now) c.replace-held.ensures.value);
      size = omega (arith, all, size);
      few = omega (arith, all, size, few);
      count = omega (arith, all, len, held, count, more);
    }
