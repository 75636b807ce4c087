use Rattle.std.proofs.Common.{◌≤◌, ◌<◌, ◌+◌, Bool, List, ℕ, ◌++◌, drop, vec_len, sym, refl, subst, arith, ⊎_elim}
use Rattle.std.proofs.lemmas.Result.{IfOk-weaker}
use Rattle.std.specs.Io.KnownBytes.{Consumes, prepend_known}
use Rattle.wopi_http.specs.declared.chunked.ChunkRead.{ChunkRead}
use Rattle.wopi_http.specs.Limits.{body_limit, chunk_limit}
use Rattle.wopi_http.specs.Chunks.{ReadsSizeLine}
use Rattle.wopi_http.specs.ChunkSteps.{IsBadChunk}
use Rattle.wopi_http.specs.Opens.{IsOpenData, IsOpenChunk, in_line, in_chunk, in_trailers}
use Rattle.wopi_http.proofs.LookLemmas.{consumes_front, refused_here}
use Rattle.wopi_http.proofs.StepLemmas.{line_alone, no_line, ended_all, large_line, many_lines, chunk_from_last, chunk_from_data}
use Rattle.wopi_http.specs.ChunkReads.{HasNoSizeLine, IsOpenLine, IsOpenTrailers}
use Rattle.wopi_http.proofs.CutLemmas.{cut_after, cut_weaker}
use Rattle.wopi_http.proofs.chunked.read_chunk.Goals as goal

pub returns-in-Ok-More-clause-says : goal.returns-in-Ok-More-clause-says
returns-in-Ok-More-clause-says g c =
    let says = rw c.in-Ok-More.field-0-is at c.in-Ok-More.ensures.says in
    let end = rw c.in-Ok-More.field-0-is at c.in-Ok-More.ensures.end in
    let used = vec_len c.args.body.now in
    let P : List ℕ → Bool → Type 0 = λ bytes ended. IsBadChunk used c.args.count bytes ended 400 in
    rw c.refused.ensures.value (refused_here _ (g.S.Source.left c.await_line.new.source) c.await_line.new.buffer P c.in-Ok-More.ensures.unread
    (λ ended at_end. no_line used c.args.count c.await_line.new.buffer ended
    (ended_all HasNoSizeLine c.await_line.new.buffer ended (at_end end) says.none)))

pub returns-in-Ok-Never-clause-says : goal.returns-in-Ok-Never-clause-says
returns-in-Ok-Never-clause-says g c =
    let says = rw c.in-Ok-Never.field-0-is at c.in-Ok-Never.ensures.says in
    let used = vec_len c.args.body.now in
    let P : List ℕ → Bool → Type 0 = λ bytes ended. IsBadChunk used c.args.count bytes ended 400 in
    rw c.refused-in-Ok-Never.ensures.value (refused_here _ (g.S.Source.left c.await_line.new.source) c.await_line.new.buffer P c.in-Ok-Never.ensures.unread
    (λ ended at_end. no_line used c.args.count c.await_line.new.buffer ended (λ more _. says more)))

pub returns-then-size-len-clause-says : goal.returns-then-size-len-clause-says
returns-then-size-len-clause-says g c =
    let says = rw c.in-Ok-Line.field-0-is at c.in-Ok-Line.ensures.says in
    let used = vec_len c.args.body.now in
    let size = c.in-Ok-Line.size in
    let held = c.await_line.new.buffer in
    let P : List ℕ → Bool → Type 0 = λ bytes ended. IsBadChunk used c.args.count bytes ended 413 in
    let large : body_limit < used + size = omega (arith, c.if-size-len.true, c.len.ensures, c.requires) in
    rw c.refused-then-size-len.ensures.value (refused_here _ (g.S.Source.left c.await_line.new.source) held P c.in-Ok-Line.ensures.unread
    (λ ended at_end. large_line used c.args.count size held (drop c.in-Ok-Line.len held) ended says.2 large))

pub returns-then-count-ge-CHUNK_LIMIT-clause-says : goal.returns-then-count-ge-CHUNK_LIMIT-clause-says
returns-then-count-ge-CHUNK_LIMIT-clause-says g c =
    let says = rw c.in-Ok-Line.field-0-is at c.in-Ok-Line.ensures.says in
    let used = vec_len c.args.body.now in
    let size = c.in-Ok-Line.size in
    let held = c.await_line.new.buffer in
    let P : List ℕ → Bool → Type 0 = λ bytes ended. IsBadChunk used c.args.count bytes ended 400 in
    let fits : used + size ≤ body_limit = omega (arith, c.if-size-len.false, c.len.ensures, c.requires) in
    let some : 0 < size = omega (arith, c.if-size-ne0.true) in
    let many : chunk_limit ≤ c.args.count = omega (arith, c.if-count-ge-CHUNK_LIMIT.true) in
    rw c.refused-then-count-ge-CHUNK_LIMIT.ensures.value (refused_here _ (g.S.Source.left c.await_line.new.source) held P c.in-Ok-Line.ensures.unread
    (λ ended at_end. many_lines used c.args.count size held (drop c.in-Ok-Line.len held) ended says.2 some fits many))

pub returns-then-size-eq0-clause-says : goal.returns-then-size-eq0-clause-says
returns-then-size-eq0-clause-says g c =
    let says = rw c.in-Ok-Line.field-0-is at c.in-Ok-Line.ensures.says in
    let used = vec_len c.args.body.now in
    let count = c.args.count in
    let size = c.in-Ok-Line.size in
    let len = c.in-Ok-Line.len in
    let held = c.await_line.new.buffer in
    let body = c.args.body.now.items in
    let a = prepend_known c.args.buffer.now (g.S.Source.left c.args.source.now) in
    let b = g.S.Source.left c.await_line.new.source in
    let rest = prepend_known c.read_last.new.buffer (g.S.Source.left c.read_last.new.source) in
    let alone = line_alone held size len says.0 says.2 in
    let zero = subst (λ (k : ℕ). (r : List ℕ) → ReadsSizeLine (alone.0 ++ r) k r) c.if-size-eq0.true alone.3 in
    let mid = prepend_known c.skip.new.self b in
    let front : Consumes a mid alone.0 =
    subst (λ (z : List ℕ). Consumes a (prepend_known z b) alone.0) (sym c.skip.ensures)
    (consumes_front a b held alone.0 (drop len held) c.in-Ok-Line.ensures.unread alone.1) in
    IfOk-weaker c.read_last.result _ _
    (λ (r : ChunkRead) last. chunk_from_last used count len a mid rest body body alone.0 r front alone.2 zero c.requires refl last)
    c.read_last.ensures.says

pub returns-clause-says : goal.returns-clause-says
returns-clause-says g c =
    let says = rw c.in-Ok-Line.field-0-is at c.in-Ok-Line.ensures.says in
    let used = vec_len c.args.body.now in
    let count = c.args.count in
    let size = c.in-Ok-Line.size in
    let len = c.in-Ok-Line.len in
    let held = c.await_line.new.buffer in
    let a = prepend_known c.args.buffer.now (g.S.Source.left c.args.source.now) in
    let b = g.S.Source.left c.await_line.new.source in
    let rest = prepend_known c.read_data.new.buffer (g.S.Source.left c.read_data.new.source) in
    let alone = line_alone held size len says.0 says.2 in
    let mid = prepend_known c.skip.new.self b in
    let front : Consumes a mid alone.0 =
    subst (λ (z : List ℕ). Consumes a (prepend_known z b) alone.0) (sym c.skip.ensures)
    (consumes_front a b held alone.0 (drop len held) c.in-Ok-Line.ensures.unread alone.1) in
    let fits : used + size ≤ body_limit = omega (arith, c.if-size-len.false, c.len.ensures, c.requires) in
    let some : 0 < size = omega (arith, c.if-size-eq0.false) in
    let below : count < chunk_limit = ⊎_elim (λ l. l.1) (λ zero. absurd (c.if-size-eq0.false zero)) c.else-size-ne0.either in
    IfOk-weaker c.read_data.result _ _
    (λ (r : ChunkRead) of. chunk_from_data used count len size a mid rest c.args.body.now.items c.read_data.new.body.items alone.0 r front alone.2 says.1 alone.3 some fits below of)
    c.read_data.ensures.says

pub returns-in-Err-clause-cut : goal.returns-in-Err-clause-cut
returns-in-Err-clause-cut g c =
    let used = vec_len c.args.body.now in
    λ _. cut_weaker (prepend_known c.args.buffer.now (g.S.Source.left c.args.source.now)) (g.S.Source.left c.await_line.new.source) IsOpenLine
    (IsOpenChunk used c.args.count) c.in-Err.ensures.cut (λ bytes it. in_line it)

pub returns-then-size-eq0-clause-cut : goal.returns-then-size-eq0-clause-cut
returns-then-size-eq0-clause-cut g c =
    let says = rw c.in-Ok-Line.field-0-is at c.in-Ok-Line.ensures.says in
    let used = vec_len c.args.body.now in
    let count = c.args.count in
    let size = c.in-Ok-Line.size in
    let len = c.in-Ok-Line.len in
    let held = c.await_line.new.buffer in
    let a = prepend_known c.args.buffer.now (g.S.Source.left c.args.source.now) in
    let b = g.S.Source.left c.await_line.new.source in
    let alone = line_alone held size len says.0 says.2 in
    let zero = subst (λ (k : ℕ). (r : List ℕ) → ReadsSizeLine (alone.0 ++ r) k r) c.if-size-eq0.true alone.3 in
    let mid = prepend_known c.skip.new.self b in
    let front : Consumes a mid alone.0 =
    subst (λ (z : List ℕ). Consumes a (prepend_known z b) alone.0) (sym c.skip.ensures)
    (consumes_front a b held alone.0 (drop len held) c.in-Ok-Line.ensures.unread alone.1) in
    λ failed. cut_after a mid (g.S.Source.left c.read_last.new.source) alone.0 IsOpenTrailers (IsOpenChunk used count) front
    (c.read_last.ensures.cut failed) (λ bytes it. in_trailers bytes (zero bytes) it)

pub returns-clause-cut : goal.returns-clause-cut
returns-clause-cut g c =
    let says = rw c.in-Ok-Line.field-0-is at c.in-Ok-Line.ensures.says in
    let used = vec_len c.args.body.now in
    let count = c.args.count in
    let size = c.in-Ok-Line.size in
    let len = c.in-Ok-Line.len in
    let held = c.await_line.new.buffer in
    let a = prepend_known c.args.buffer.now (g.S.Source.left c.args.source.now) in
    let b = g.S.Source.left c.await_line.new.source in
    let alone = line_alone held size len says.0 says.2 in
    let mid = prepend_known c.skip.new.self b in
    let front : Consumes a mid alone.0 =
    subst (λ (z : List ℕ). Consumes a (prepend_known z b) alone.0) (sym c.skip.ensures)
    (consumes_front a b held alone.0 (drop len held) c.in-Ok-Line.ensures.unread alone.1) in
    let fits : used + size ≤ body_limit = omega (arith, c.if-size-len.false, c.len.ensures, c.requires) in
    let some : 0 < size = omega (arith, c.if-size-eq0.false) in
    let below : count < chunk_limit = ⊎_elim (λ l. l.1) (λ zero. absurd (c.if-size-eq0.false zero)) c.else-size-ne0.either in
    λ failed. cut_after a mid (g.S.Source.left c.read_data.new.source) alone.0 (IsOpenData size) (IsOpenChunk used count) front
    (c.read_data.ensures.cut failed) (λ bytes it. in_chunk size bytes (alone.3 bytes) some fits below it)
