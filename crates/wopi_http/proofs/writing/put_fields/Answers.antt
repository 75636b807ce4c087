use Rattle.std.proofs.Common.{ℕ, List, ◌++◌, ◌∙◌, take, get_or, subst, arith}
use Rattle.std.specs.List.{flat_map}
use Rattle.outside.specs.Stream.{GrewByPrefix}
use Rattle.wopi_http.specs.declared.message.Field.{Field}
use Rattle.wopi_http.specs.Replies.{Gathers, field_text}
use Rattle.wopi_http.proofs.WriteLemmas.{Gathers-then, part_then, part_more, text_more}
use Rattle.wopi_http.proofs.writing.put_fields.Goals as goal

pub returns-in-Err-clause-bytes : goal.returns-in-Err-clause-bytes
returns-in-Err-clause-bytes g c =
    let xs = c.args.fields.now in
    let i = c.loop-field.field-index in
    let item = c.field-item.result in
    let before = c.args.waiting.now.items in
    let waited = c.loop-field.waiting.items in
    let mid = g.K.Sink.held c.loop-field.sink in
    let new = g.K.Sink.held c.put_field.new.sink in
    let part = subst (λ (f : Field). GrewByPrefix mid new (waited ++ field_text f)) c.field-item.is c.in-Err.ensures.bytes in
    part_more field_text xs i item _ _ before c.loop-field-test.true
    (part_then _ mid new waited (before ++ flat_map field_text (take i xs)) (field_text (get_or xs i item)) c.loop-field.invariant.put part)

pub loop-field-preserved : goal.loop-field-preserved
loop-field-preserved g c =
    let xs = c.args.fields.now in
    let i = c.loop-field.field-index in
    let item = c.field-item.result in
    let before = c.args.waiting.now.items in
    let waited = c.loop-field.waiting.items in
    let waiting = c.put_field.new.waiting.items in
    let old = g.K.Sink.held c.args.sink.now in
    let mid = g.K.Sink.held c.loop-field.sink in
    let new = g.K.Sink.held c.put_field.new.sink in
    let more = subst (λ (f : Field). Gathers mid new waiting (waited ++ field_text f)) c.field-item.is c.in-Ok.ensures.bytes in
    record {
      put = subst (λ (t : List ℕ). Gathers old new waiting t) (text_more field_text xs i item before c.loop-field-test.true)
          (Gathers-then old mid new waited waiting (before ++ flat_map field_text (take i xs)) (field_text (get_or xs i item))
          c.loop-field.invariant.put more);
      beside = c.in-Ok.ensures.beside ∙ c.loop-field.invariant.beside;
      never_falls = omega (arith, c.in-Ok.ensures.never_falls, c.loop-field.invariant.never_falls);
    }
