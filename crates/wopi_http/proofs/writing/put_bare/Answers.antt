use Rattle.std.proofs.Common.{◌++◌, List, ℕ, subst}
use Rattle.std.specs.Prelude.{codes}
use Rattle.std.specs.List.{flat_map}
use Rattle.wopi_http.specs.Replies.{Puts, field_text, status_line, bare_fields}
use Rattle.wopi_http.proofs.WriteLemmas.{Puts-after, part_longer}
use Rattle.wopi_http.proofs.writing.put_bare.Goals as goal

pub returns-in-Ok-clause-bytes : goal.returns-in-Ok-clause-bytes
returns-in-Ok-clause-bytes g c =
    let rest = flat_map field_text (bare_fields c.args.close) ++ codes "\r\n" in
    let mid = g.K.Sink.held c.put_status.new.sink in
    let new = g.K.Sink.held c.put.new.sink in
    let waited = c.put_status.new.waiting.items in
    let waiting = c.put.new.waiting.items in
    let more = subst (λ (t : List ℕ). Puts mid new waiting c.put.result (waited ++ t)) c.bare_rest.ensures c.put.ensures.bytes in
    Puts-after _ mid new c.put.result waited waiting c.args.waiting.now.items (status_line c.args.status) rest c.in-Ok.ensures.bytes more

pub returns-in-Err-clause-bytes : goal.returns-in-Err-clause-bytes
returns-in-Err-clause-bytes g c =
    let rest = flat_map field_text (bare_fields c.args.close) ++ codes "\r\n" in
    part_longer _ _ c.args.waiting.now.items (status_line c.args.status) rest c.in-Err.ensures.bytes
