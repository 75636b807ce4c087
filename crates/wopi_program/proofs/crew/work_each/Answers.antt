use denote.Param.Send.{sendable, param_send, param_sync}
use Rattle.wopi_program.proofs.Sends.{alloc_sync, alloc_field_sync}
use Rattle.host_table.proofs.Sends.{host_sync}
use Rattle.host_server.proofs.Sends.{worker_send, desk_sync, given_send, given_sync}
use Rattle.host_server.proofs.VisitLemmas.{all_there, moved}
use Rattle.host_server.specs.Working.{Works}
use Rattle.wopi_program.proofs.crew.work_each.Goals as goal

pub for_each_mut-requires-send-T : goal.for_each_mut-requires-send-T
for_each_mut-requires-send-T g c κs within = param_send 1 _ (given_send _ _ (worker_send _ _ _ g.F.Store c.type_bounds.send-N c.type_bounds.send-K c.type_bounds.send-F))

pub for_each_mut-requires-sync-F : goal.for_each_mut-requires-sync-F
for_each_mut-requires-sync-F g c κs within =
    let f = c.type_bounds.send-F in
    search (sendable, host_sync, desk_sync, alloc_sync, alloc_field_sync, f) depth 20

pub for_each_mut-requires-clause-accepts : goal.for_each_mut-requires-clause-accepts
for_each_mut-requires-clause-accepts g c = λ κs within i p inside is. (all_there _ _ i p.now c.requires inside is, (param_send 1 _ (given_send _ _ c.type_bounds.send-F), param_send 2 _ (given_send _ _ c.type_bounds.send-N), param_send 3 _ (given_send _ _ c.type_bounds.send-K), param_send 4 _ (given_send _ _ c.type_bounds.send-N-Link), param_sync 0 _ (given_sync _ _ c.type_bounds.sync-R)))

pub returns-clause-each : goal.returns-clause-each
returns-clause-each g c = λ i d inside.
    let changes = (c.for_each_mut.ensures i d inside).1 in
    moved (Works (record {
      links_left = g.N.Listener.links_left;
      finished_links = g.N.Listener.finished_links;
      accepted = g.N.Listener.accepted;
      finished = g.N.Listener.finished;
      faults = g.N.Listener.faults;
      left = g.N.Link.Source.left;
      held = g.N.Link.Sink.held;
      read_faults = g.N.Link.Source.read_faults;
      write_faults = g.N.Link.Sink.write_faults;
      moments = g.K.Clock.moments;
      loses = g.F.Store.loses;
    }) c.args.desk.now) _ _ _ _ changes.call changes.argument_is changes.left
