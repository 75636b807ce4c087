use Rattle.std.proofs.Common.{sym, ◌∙◌, subst}
use Rattle.wopi_http.specs.ChunkReads.{EndSays, IsOpenEnd}
use Rattle.wopi_http.specs.declared.chunk.EndRead.TheVariants.{More, Never}
use Rattle.wopi_http.proofs.CutLemmas.{cut_here}
use Rattle.wopi_http.proofs.waiting.await_end.Goals as goal

pub returns-in-Never-clause-says : goal.returns-in-Never-clause-says
returns-in-Never-clause-says g c = subst (λ bytes. EndSays bytes Never) c.unread.ensures c.in-Never.ensures

pub returns-then-count-eq0-clause-says : goal.returns-then-count-eq0-clause-says
returns-then-count-eq0-clause-says g c =
    subst (λ bytes. EndSays bytes More) (c.unread.ensures ∙ sym (c.in-Ok.ensures.same c.if-count-eq0.true)) c.in-More.ensures

pub returns-in-Err-clause-cut : goal.returns-in-Err-clause-cut
returns-in-Err-clause-cut g c =
    cut_here _ (g.S.Source.left c.waiting.source) (g.S.Source.left c.fill.new.source) c.waiting.buffer IsOpenEnd c.waiting.invariant.unread
    c.in-Err.ensures.kept (subst IsOpenEnd c.unread.ensures c.in-More.ensures)
