use Rattle.std.proofs.Common.{◌≡◌, ◌<◌}
use Rattle.host_server.specs.Copies.{create_as}
use Rattle.host_server.specs.Keeping.{KeepsTold}
use Rattle.host_server.specs.Tries.{Going}
use Rattle.host_server.proofs.creating.create.Given as goal

abbrev pub invariant-names : goal.invariant-names
invariant-names g l = record {
  going : Going g.C.Caller.always (g.C.Caller.sight l.initial.caller) (g.C.Caller.sight l.caller) (create_as l.name l.token l.overwrite l.fn.contents) l.moment l.number;
  few : l.number < l.tries;
  same : l.contents ≡ l.fn.contents;
  telling : KeepsTold g.C.Caller.loses (g.C.Caller.telling l.initial.caller) (g.C.Caller.telling l.caller) (g.C.Caller.sight l.initial.caller) (g.C.Caller.sight l.caller);
  basis : g.C.Caller.basis l.caller ≡ g.C.Caller.basis l.initial.caller;
  references : g.C.Caller.references l.caller ≡ g.C.Caller.references l.initial.caller;
}
