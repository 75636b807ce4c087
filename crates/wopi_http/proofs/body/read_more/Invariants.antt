use Rattle.std.proofs.Common.{◌≡◌, ◌≤◌, ◌-◌, vec_len, vec_capacity}
use Rattle.wopi_http.specs.Waits.{Takes}
use Rattle.wopi_http.proofs.body.read_more.Given as goal

abbrev pub invariant-growing : goal.invariant-growing
invariant-growing g l = record {
  from : l.start ≤ vec_len l.body;
  inside : vec_len l.body ≤ l.end;
  room : l.end ≤ vec_capacity l.body;
  taken : Takes (g.S.Source.left l.initial.source) (g.S.Source.left l.source) l.initial.body.items l.body.items (vec_len l.body - l.start);
  beside : g.S.Source.beside_reads l.source ≡ g.S.Source.beside_reads l.initial.source;
  fine : g.S.Source.read_faults l.source ≡ g.S.Source.read_faults l.initial.source;
  never_falls : g.S.Source.read_faults l.initial.source ≤ g.S.Source.read_faults l.source;
}

abbrev pub decreases-growing : goal.decreases-growing
decreases-growing g l = l.end - vec_len l.body
