use denote.Exit.{no}
use denote.Param.{param}
use denote.Param.Send.{IsSend, IsSync, arg_send, param_send, param_sync}
use Rattle.host_server.proofs.Sends.{given_send, given_sync}
use Rattle.wopi_program.proofs.Sends.{watch_send}
use Rattle.wopi_program.proofs.crew.work_beside.Goals as goal

pub join_mut-watched-requires-send-F : goal.join_mut-watched-requires-send-F
join_mut-watched-requires-send-F g c κs within =
    let f : IsSend (param 1 g.row.F) = param_send 1 _ c.type_bounds.send-F in
    let k : IsSend (param 4 g.row.K) = param_send 4 _ c.type_bounds.send-K in
    let r : IsSync (param 0 g.row.R) = param_sync 0 _ c.type_bounds.sync-R in
    param_send 1 _ (arg_send _ no _ (watch_send _ _ _ _ _ _ _ _ g.row.R g.row.F g.row.K g.F.Store r f k))

pub join_mut-watched-requires-after_bounds : goal.join_mut-watched-requires-after_bounds
join_mut-watched-requires-after_bounds g c κs within =
    ((c.requires.host, c.requires.right), (c.requires.may, (param_send 1 _ (given_send _ _ c.type_bounds.send-F), param_send 2 _ (given_send _ _ c.type_bounds.send-N), param_send 3 _ (given_send _ _ c.type_bounds.send-C), param_send 4 _ (given_send _ _ c.type_bounds.send-N-Link), param_sync 0 _ (given_sync _ _ c.type_bounds.sync-R))))
