use Rattle.std.proofs.Common.{◌++◌, List, ℕ, subst}
use Rattle.std.specs.Prelude.{codes}
use Rattle.std.specs.List.{flat_map}
use Rattle.outside.specs.Stream.{GrewByPrefix}
use Rattle.wopi_http.specs.declared.message.Field.{Field}
use Rattle.wopi_http.specs.Replies.{Puts, Gathers, field_text, status_line}
use Rattle.wopi_http.proofs.WriteLemmas.{Puts-after, part_longer, part_after}
use Rattle.wopi_http.proofs.writing.put_reply.Goals as goal

pub returns-in-Err-clause-bytes : goal.returns-in-Err-clause-bytes
returns-in-Err-clause-bytes g c =
    let r = c.args.reply.now in
    part_longer _ _ c.args.waiting.now.items (status_line r.status) (flat_map field_text r.fields ++ (codes "\r\n" ++ r.body)) c.in-Err.ensures.bytes

pub returns-in-Err-put_fields-clause-bytes : goal.returns-in-Err-put_fields-clause-bytes
returns-in-Err-put_fields-clause-bytes g c =
    let r = c.args.reply.now in
    let fields = flat_map field_text r.fields in
    let end = codes "\r\n" ++ r.body in
    let before = c.args.waiting.now.items in
    let waited = c.put_status.new.waiting.items in
    let mid = g.K.Sink.held c.put_status.new.sink in
    let new = g.K.Sink.held c.put_fields.new.sink in
    let part = subst (λ (fs : List Field). GrewByPrefix mid new (waited ++ flat_map field_text fs)) c.as_slice.ensures c.in-Err-put_fields.ensures.bytes in
    part_after _ mid new waited before (status_line r.status) (fields ++ end) c.in-Ok.ensures.bytes (part_longer mid new waited fields end part)

pub returns-in-Err-put-clause-bytes : goal.returns-in-Err-put-clause-bytes
returns-in-Err-put-clause-bytes g c =
    let r = c.args.reply.now in
    let fields = flat_map field_text r.fields in
    let line = codes "\r\n" in
    let end = line ++ r.body in
    let before = c.args.waiting.now.items in
    let waited = c.put_status.new.waiting.items in
    let later = c.put_fields.new.waiting.items in
    let mid = g.K.Sink.held c.put_status.new.sink in
    let late = g.K.Sink.held c.put_fields.new.sink in
    let new = g.K.Sink.held c.put.new.sink in
    let put = subst (λ (fs : List Field). Gathers mid late later (waited ++ flat_map field_text fs)) c.as_slice.ensures c.in-Ok-put_fields.ensures.bytes in
    let part : GrewByPrefix late new (later ++ line) = c.in-Err-put.ensures.bytes in
    part_after _ mid new waited before (status_line r.status) (fields ++ end) c.in-Ok.ensures.bytes
    (part_after mid late new later waited fields end put (part_longer late new later line r.body part))

pub returns-clause-bytes : goal.returns-clause-bytes
returns-clause-bytes g c =
    let r = c.args.reply.now in
    let fields = flat_map field_text r.fields in
    let line = codes "\r\n" in
    let end = line ++ r.body in
    let before = c.args.waiting.now.items in
    let waited = c.put_status.new.waiting.items in
    let later = c.put_fields.new.waiting.items in
    let last = c.put.new.waiting.items in
    let waiting = c.put_body.new.waiting.items in
    let mid = g.K.Sink.held c.put_status.new.sink in
    let late = g.K.Sink.held c.put_fields.new.sink in
    let end_at = g.K.Sink.held c.put.new.sink in
    let new = g.K.Sink.held c.put_body.new.sink in
    let put = subst (λ (fs : List Field). Gathers mid late later (waited ++ flat_map field_text fs)) c.as_slice.ensures c.in-Ok-put_fields.ensures.bytes in
    let lined : Gathers late end_at last (later ++ line) = c.in-Ok-put.ensures.bytes in
    let body = subst (λ (t : List ℕ). Puts end_at new waiting c.put_body.result (last ++ t)) c.as_slice-2.ensures c.put_body.ensures.bytes in
    let ends = Puts-after late end_at new c.put_body.result last waiting later line r.body lined body in
    Puts-after _ mid new c.put_body.result waited waiting before (status_line r.status) (fields ++ end) c.in-Ok.ensures.bytes
    (Puts-after mid late new c.put_body.result later waiting waited fields end put ends)
