use Rattle.std.proofs.Common.{◌≡◌}
use Rattle.host_table.specs.Passes.{IsSamePass, own_of, sight_of}
use Rattle.wopi_program.specs.Watched.{AreRight, TellsOf}
use Rattle.wopi_program.proofs.watching.watch.Given as goal

abbrev pub invariant-looks : goal.invariant-looks
invariant-looks g l = record {
  told : TellsOf g.K.Sink.held g.K.Sink.write_faults l.fn.notes l.notes l.fn.marks l.marks;
  right : AreRight l.marks (sight_of l.pass);
  own : own_of l.pass ≡ own_of l.fn.pass;
  same : IsSamePass l.fn.pass l.pass;
}
