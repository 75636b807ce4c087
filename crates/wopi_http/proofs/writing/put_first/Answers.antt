use Rattle.std.proofs.Common.{ap, ◌++◌, ◌∙◌}
use Rattle.wopi_http.proofs.WriteLemmas.{Puts-written, Gathers-first}
use Rattle.wopi_http.proofs.writing.put_first.Goals as goal

pub returns-in-Ok-clause-bytes : goal.returns-in-Ok-clause-bytes
returns-in-Ok-clause-bytes g c =
    let piece = c.args.piece.now in
    Gathers-first _ _ piece (c.in-Ok.ensures.ok ∙ ap (λ z. z ++ piece) c.requires)

pub returns-in-Err-clause-bytes : goal.returns-in-Err-clause-bytes
returns-in-Err-clause-bytes g c =
    Puts-written _ _ c.write_all.result c.try_extend_from_slice.new.self.items c.args.piece.now (ap (λ v. v.items) c.in-Err.ensures.err ∙ c.requires)
    c.write_all.ensures.bytes
