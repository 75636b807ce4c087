use Rattle.std.proofs.Common.{List, ℕ, drop, length, sym, refl, subst}
use Rattle.std.specs.Io.KnownBytes.{Consumes, prepend_known}
use Rattle.wopi_http.specs.ChunkReads.{HasNoTrailers}
use Rattle.wopi_http.specs.ChunkSteps.{IsBadTrailers}
use Rattle.wopi_http.proofs.LookLemmas.{consumes_front, looks_kept, looks_here}
use Rattle.wopi_http.proofs.StepLemmas.{trailers_alone, ended_all}
use Rattle.wopi_http.proofs.chunked.read_last.Goals as goal

pub returns-in-Ok-Whole-clause-says : goal.returns-in-Ok-Whole-clause-says
returns-in-Ok-Whole-clause-says g c =
    let says = rw c.in-Ok-Whole.field-0-is at c.in-Ok-Whole.ensures.says in
    let held = c.await_trailers.new.buffer in
    let a = prepend_known c.args.buffer.now (g.S.Source.left c.args.source.now) in
    let b = g.S.Source.left c.await_trailers.new.source in
    let alone = trailers_alone held (drop c.in-Ok-Whole.len held) says.1 in (
      alone.0,
      subst (λ (z : List ℕ). Consumes a (prepend_known z b) alone.0) (sym c.skip.ensures)
          (consumes_front a b held alone.0 (drop c.in-Ok-Whole.len held) c.in-Ok-Whole.ensures.unread alone.1),
      alone.2,
    )

pub returns-in-Ok-More-clause-says : goal.returns-in-Ok-More-clause-says
returns-in-Ok-More-clause-says g c =
    let says = rw c.in-Ok-More.field-0-is at c.in-Ok-More.ensures.says in
    let end = rw c.in-Ok-More.field-0-is at c.in-Ok-More.ensures.end in
    let held = c.await_trailers.new.buffer in
    let a = prepend_known c.args.buffer.now (g.S.Source.left c.args.source.now) in
    let b = g.S.Source.left c.await_trailers.new.source in
    rw c.refused.ensures.value (
      refl,
      record {
        m = length held;
        looks = looks_kept a (prepend_known held b) (length held) IsBadTrailers c.in-Ok-More.ensures.unread
            (looks_here b held IsBadTrailers (λ ended at_end. ended_all HasNoTrailers held ended (at_end end) says.none));
        count = refl;
        few = c.refused.ensures.few;
      },
    )

pub returns-in-Ok-Never-clause-says : goal.returns-in-Ok-Never-clause-says
returns-in-Ok-Never-clause-says g c =
    let says = rw c.in-Ok-Never.field-0-is at c.in-Ok-Never.ensures.says in
    let held = c.await_trailers.new.buffer in
    let a = prepend_known c.args.buffer.now (g.S.Source.left c.args.source.now) in
    let b = g.S.Source.left c.await_trailers.new.source in
    rw c.refused-in-Ok-Never.ensures.value (
      refl,
      record {
        m = length held;
        looks = looks_kept a (prepend_known held b) (length held) IsBadTrailers c.in-Ok-Never.ensures.unread
            (looks_here b held IsBadTrailers (λ ended at_end more _. says more));
        count = refl;
        few = c.refused-in-Ok-Never.ensures.few;
      },
    )
