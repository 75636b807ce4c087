use Rattle.std.proofs.Common.{◌≡◌, ◌≤◌, ◌-◌, length}
use Rattle.std.specs.Io.KnownBytes.{Keeps, prepend_known}
use Rattle.wopi_http.proofs.waiting.await_end.Given as goal

abbrev pub invariant-waiting : goal.invariant-waiting
invariant-waiting g l = record {
  unread : Keeps (prepend_known l.initial.buffer (g.S.Source.left l.initial.source)) (prepend_known l.buffer (g.S.Source.left l.source));
  beside : g.S.Source.beside_reads l.source ≡ g.S.Source.beside_reads l.initial.source;
  fine : g.S.Source.read_faults l.source ≡ g.S.Source.read_faults l.initial.source;
  never_falls : g.S.Source.read_faults l.initial.source ≤ g.S.Source.read_faults l.source;
}

abbrev pub decreases-waiting : goal.decreases-waiting
decreases-waiting g l = 2 - length l.buffer
