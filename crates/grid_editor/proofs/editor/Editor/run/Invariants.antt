use Rattle.std.proofs.Common.{◌≡◌, ◌≤◌, drop}
use Rattle.grid_editor.specs.Runs.{StaysAt, Writes}
use Rattle.grid_editor.proofs.TurnLemmas.{Leads}
use Rattle.grid_editor.proofs.editor.Editor.run.Given as goal

-- what was done so far leads to what is still to do
abbrev pub invariant-commands : goal.invariant-commands
invariant-commands g l = record {
  stays : StaysAt l.fn.self l.self;
  never_falls : g.D.Dialer.faults l.fn.dialer ≤ g.D.Dialer.faults l.dialer;
  writes_never_fall : g.K.Sink.write_faults l.fn.sink ≤ g.K.Sink.write_faults l.sink;
  so_far : Writes (g.K.Sink.held l.fn.sink) (g.K.Sink.held l.sink) (g.D.Dialer.exchanges l.fn.dialer) (g.D.Dialer.exchanges l.dialer)
      (g.D.Dialer.faults l.fn.dialer) (g.D.Dialer.faults l.dialer) (λ written sent. Leads l.fn.self l.script l.self (drop l.command-index l.script) written sent);
}
