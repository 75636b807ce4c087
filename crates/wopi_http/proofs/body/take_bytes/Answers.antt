use Rattle.std.proofs.Common.{◌-◌, ◌<◌, List, ℕ, length, arith}
use Rattle.std.proofs.lemmas.List.{length-append}
use Rattle.std.specs.Io.KnownBytes.{prepend_known}
use Rattle.std.proofs.KnownBytes.{Keeps-refl}
use Rattle.wopi_http.proofs.CutLemmas.{cut_after, consumes_all}
use Rattle.wopi_http.proofs.body.take_bytes.Goals as goal

pub returns-in-Err-clause-cut : goal.returns-in-Err-clause-cut
returns-in-Err-clause-cut g c =
    let held = c.args.buffer.now in
    let left = g.S.Source.left c.args.source.now in
    let P : List ℕ → Type 0 = λ bytes. length bytes < c.args.count - c.min-held.result in
    let Q : List ℕ → Type 0 = λ bytes. length bytes < c.args.count in
    cut_after (prepend_known held left) left (g.S.Source.left c.read_more.new.source) held P Q
    (consumes_all (prepend_known held left) left left held (Keeps-refl (prepend_known held left)) (Keeps-refl left)) c.in-Err.ensures.cut
    (λ bytes less. omega (arith, less, length-append held bytes, c.min-held.ensures, c.held.ensures.value, c.if-held-count.false))
