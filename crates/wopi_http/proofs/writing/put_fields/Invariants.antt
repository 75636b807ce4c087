use Rattle.std.proofs.Common.{◌≡◌, ◌≤◌, ◌++◌, take}
use Rattle.std.specs.List.{flat_map}
use Rattle.wopi_http.specs.Replies.{Gathers, field_text}
use Rattle.wopi_http.proofs.writing.put_fields.Given as goal

abbrev pub invariant-loop-field : goal.invariant-loop-field
invariant-loop-field g l = record {
  put : Gathers (g.K.Sink.held l.initial.sink) (g.K.Sink.held l.sink) l.waiting.items (l.initial.waiting.items ++ flat_map field_text (take l.field-index l.fields));
  beside : g.K.Sink.beside_writes l.sink ≡ g.K.Sink.beside_writes l.initial.sink;
  never_falls : g.K.Sink.write_faults l.initial.sink ≤ g.K.Sink.write_faults l.sink;
}
