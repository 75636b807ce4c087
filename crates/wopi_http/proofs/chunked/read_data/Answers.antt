use Rattle.std.proofs.Common.{◌≡◌, ◌<◌, ◌+◌, ℕ, ◌++◌, length, true, refl, subst, arith, List}
use Rattle.std.specs.Io.KnownBytes.{prepend_known}
use Rattle.wopi_http.specs.Looks.{LooksAt}
use Rattle.wopi_http.specs.ChunkSteps.{IsBadData, HasNoData}
use Rattle.wopi_http.proofs.LookLemmas.{looks_all}
use Rattle.wopi_http.proofs.StepLemmas.{short_data, bad_end, refused_data, ended_all}
use Rattle.wopi_http.specs.ChunkReads.{IsOpenEnd}
use Rattle.wopi_http.specs.Opens.{IsOpenData, in_data, in_end}
use Rattle.wopi_http.proofs.BodyLemmas.{no_data}
use Rattle.wopi_http.proofs.CutLemmas.{cut_after, cut_weaker}
use Rattle.wopi_http.proofs.chunked.read_data.Goals as goal

pub returns-then-got-size-clause-says : goal.returns-then-got-size-clause-says
returns-then-got-size-clause-says g c =
    let size = c.args.size in
    let got = c.in-Ok-take_bytes.count in
    let a = prepend_known c.args.buffer.now (g.S.Source.left c.args.source.now) in
    let b = prepend_known c.take_bytes.new.buffer (g.S.Source.left c.take_bytes.new.source) in
    let taken = c.in-Ok-take_bytes.ensures.taken in
    let wire = taken.wire in
    let less : got < size = c.if-got-size.true in
    let count : length wire ≡ got = taken.count in
    let short : length wire < size + 2 = omega (arith, less, count) in (
      refl,
      record {
        m = got;
        looks = subst (λ (n : ℕ). LooksAt a n (IsBadData size)) count
            (looks_all a b wire (IsBadData size) taken.consumed (c.in-Ok-take_bytes.ensures.end less) (ended_all (HasNoData size) wire true refl (short_data size wire short)));
        count = refl;
        few = omega (arith, less);
      },
    )

pub returns-in-Ok-More-clause-says : goal.returns-in-Ok-More-clause-says
returns-in-Ok-More-clause-says g c =
    let says = rw c.in-Ok-More.field-0-is at c.in-Ok-More.ensures.says in
    let end = rw c.in-Ok-More.field-0-is at c.in-Ok-More.ensures.end in
    let size = c.args.size in
    let got = c.in-Ok-take_bytes.count in
    let a = prepend_known c.args.buffer.now (g.S.Source.left c.args.source.now) in
    let mid = prepend_known c.take_bytes.new.buffer (g.S.Source.left c.take_bytes.new.source) in
    let b = g.S.Source.left c.await_end.new.source in
    let held = c.await_end.new.buffer in
    let whole : got ≡ size = omega (arith, c.if-got-size.false, c.in-Ok-take_bytes.ensures.within) in
    rw c.refused.ensures.value (
      refl,
      refused_data c.args.line size got a mid b _ _ held c.in-Ok-take_bytes.ensures.taken whole c.in-Ok-More.ensures.unread c.refused.ensures.few
          (λ ended front at_end len. ended_all (HasNoData size) (front ++ held) ended (at_end end)
          (no_data size (front ++ held) (in_end front held refl len says))),
    )

pub returns-in-Ok-Never-clause-says : goal.returns-in-Ok-Never-clause-says
returns-in-Ok-Never-clause-says g c =
    let says = rw c.in-Ok-Never.field-0-is at c.in-Ok-Never.ensures.says in
    let size = c.args.size in
    let got = c.in-Ok-take_bytes.count in
    let a = prepend_known c.args.buffer.now (g.S.Source.left c.args.source.now) in
    let mid = prepend_known c.take_bytes.new.buffer (g.S.Source.left c.take_bytes.new.source) in
    let b = g.S.Source.left c.await_end.new.source in
    let held = c.await_end.new.buffer in
    let whole : got ≡ size = omega (arith, c.if-got-size.false, c.in-Ok-take_bytes.ensures.within) in
    rw c.refused-in-Ok-Never.ensures.value (
      refl,
      refused_data c.args.line size got a mid b _ _ held c.in-Ok-take_bytes.ensures.taken whole c.in-Ok-Never.ensures.unread
          c.refused-in-Ok-Never.ensures.few (λ ended front at_end len more _. bad_end size front held len says more),
    )

pub returns-in-Err-await_end-clause-cut : goal.returns-in-Err-await_end-clause-cut
returns-in-Err-await_end-clause-cut g c =
    let size = c.args.size in
    let a = prepend_known c.args.buffer.now (g.S.Source.left c.args.source.now) in
    let mid = prepend_known c.take_bytes.new.buffer (g.S.Source.left c.take_bytes.new.source) in
    let taken = c.in-Ok-take_bytes.ensures.taken in
    let wire = taken.wire in
    let count : length wire ≡ c.in-Ok-take_bytes.count = taken.count in
    λ _. cut_after a mid (g.S.Source.left c.await_end.new.source) wire IsOpenEnd (IsOpenData size) taken.consumed c.in-Err-await_end.ensures.cut
    (λ bytes it. in_end wire bytes refl (omega (arith, count, c.if-got-size.false, c.in-Ok-take_bytes.ensures.within)) it)

pub returns-in-Err-take_bytes-clause-cut : goal.returns-in-Err-take_bytes-clause-cut
returns-in-Err-take_bytes-clause-cut g c =
    let size = c.args.size in
    let a = prepend_known c.args.buffer.now (g.S.Source.left c.args.source.now) in
    let P : List ℕ → Type 0 = λ bytes. length bytes < size in
    λ _. cut_weaker a (g.S.Source.left c.take_bytes.new.source) P (IsOpenData size) c.in-Err-take_bytes.ensures.cut (λ bytes less. in_data less)
