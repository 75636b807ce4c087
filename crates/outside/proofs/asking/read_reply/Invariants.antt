use Rattle.std.proofs.Common.{◌≡◌, ◌≤◌, ◌+◌, ◌-◌, vec_len}
use Rattle.std.specs.Io.KnownBytes.{Consumes}
use Rattle.outside.proofs.asking.read_reply.Given as goal

abbrev pub invariant-reading : goal.invariant-reading
invariant-reading g l = record {
  taken : Consumes (g.L.Source.left l.initial.link) (g.L.Source.left l.link) l.bytes.items;
  held : g.L.Sink.held l.link ≡ g.L.Sink.held l.initial.link;
  write_faults : g.L.Sink.write_faults l.link ≡ g.L.Sink.write_faults l.initial.link;
  references : g.L.Link.references l.link ≡ g.L.Link.references l.initial.link;
  fine : g.L.Source.read_faults l.link ≡ g.L.Source.read_faults l.initial.link;
  never_falls : g.L.Source.read_faults l.initial.link ≤ g.L.Source.read_faults l.link;
}

abbrev pub decreases-reading : goal.decreases-reading
decreases-reading g l = l.most + 1 - vec_len l.bytes
