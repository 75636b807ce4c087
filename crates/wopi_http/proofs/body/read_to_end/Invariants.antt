use Rattle.std.proofs.Common.{◌≡◌, ◌≤◌, ◌-◌, take, vec_len, vec_capacity}
use Rattle.wopi_http.specs.Waits.{Takes}
use Rattle.wopi_http.proofs.body.read_to_end.Given as goal

abbrev pub invariant-reading : goal.invariant-reading
invariant-reading g l = record {
  from : l.filled ≤ l.done;
  inside : l.done ≤ vec_len l.body;
  len : vec_len l.body ≡ vec_len l.initial.body;
  capacity : vec_capacity l.body ≡ vec_capacity l.initial.body;
  taken : Takes (g.S.Source.left l.initial.source) (g.S.Source.left l.source) (take l.filled l.initial.body.items) (take l.done l.body.items) (l.done - l.filled);
  beside : g.S.Source.beside_reads l.source ≡ g.S.Source.beside_reads l.initial.source;
  fine : g.S.Source.read_faults l.source ≡ g.S.Source.read_faults l.initial.source;
  never_falls : g.S.Source.read_faults l.initial.source ≤ g.S.Source.read_faults l.source;
}

abbrev pub decreases-reading : goal.decreases-reading
decreases-reading g l = vec_len l.body - l.done
