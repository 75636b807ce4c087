use Rattle.std.proofs.Common.{ap, List, ℕ, subst}
use Rattle.std.specs.Io.KnownBytes.{Appends}
use Rattle.wopi_http.proofs.WriteLemmas.{Puts-flushed}
use Rattle.wopi_http.proofs.writing.put.Goals as goal

pub returns-in-Ok-flush-clause-bytes : goal.returns-in-Ok-flush-clause-bytes
returns-in-Ok-flush-clause-bytes g c =
    let old = g.K.Sink.held c.args.sink.now in
    let mid = g.K.Sink.held c.flush.new.sink in
    let waited = subst (λ (w : List ℕ). Appends old mid w) (ap (λ v. v.items) c.in-Err.ensures.err) c.in-Ok-flush.ensures.bytes in
    Puts-flushed old mid _ c.put_first.result c.args.waiting.now.items c.put_first.new.waiting.items c.args.piece.now waited c.put_first.ensures.bytes
