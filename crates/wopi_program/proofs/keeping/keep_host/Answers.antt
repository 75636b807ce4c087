use Rattle.std.proofs.Common.{◌≡◌, Bool, List, length, sym, ap, ◌∙◌, subst, arith}
use Rattle.std.specs.List.{AllByRecursion, list_any}
use Rattle.host_log.specs.Logs.{LogView}
use Rattle.host_table.specs.Close.{Leaves}
use Rattle.host_table.specs.Passes.{HostView, IsPassOf}
use Rattle.host_server.specs.declared.working.WorkEnd.{WorkEnd}
use Rattle.wopi_program.specs.Keep.{kept_end}
use Rattle.wopi_program.specs.Paired.{faults_of, files_of, lost_store, notes_of}
use Rattle.wopi_program.proofs.KeepLives.{noted_many}
use Rattle.wopi_program.proofs.LogSends.{logged_send}
use Rattle.wopi_program.proofs.ReturnedLemmas.{returned_of_host, returned_whole}
use denote.Param.Send.{param_send}
use Rattle.host_server.proofs.Sends.{given_send}
use Rattle.wopi_program.proofs.keeping.keep_host.Goals as goal

-- a store over a log may go where its folder and its log may
pub work_host-returned-requires-send-F : goal.work_host-returned-requires-send-F
work_host-returned-requires-send-F g c κs within =
    param_send 1 _ (given_send _ _ (logged_send _ _ g.F.Folder g.G.Log g.G.Sink c.type_bounds.send-F c.type_bounds.send-G))

pub end_into-stores-requires-clause-of_host : goal.end_into-stores-requires-clause-of_host
end_into-stores-requires-clause-of_host g c =
    subst (λ (h : HostView (LogView g.row.F.Denot)). AllByRecursion (IsPassOf h) c.work_host-returned.result.passes.items) (sym c.work_host-returned.ensures.host)
    (returned_of_host _ c.args.desk.now c.args.host _ _ _ _ _ _ _ _ c.work_host-returned.ensures.returned)

pub end_into-stores-requires-clause-whole : goal.end_into-stores-requires-clause-whole
end_into-stores-requires-clause-whole g c = returned_whole _ c.args.desk.now c.args.host _ _ _ _ _ _ _ _ c.work_host-returned.ensures.returned

-- the host's stores are as many as its folders
pub part_all-requires-clause-folders : goal.part_all-requires-clause-folders
part_all-requires-clause-folders g c =
    let stores : List (LogView g.row.F.Denot) = c.end_into-stores.result.items in
    let noted : length stores ≡ length c.work_host-returned.new.host.bases = noted_many _ _ _ _ stores c.end_into-stores.ensures.noted in
    let same : length c.work_host-returned.new.host.bases ≡ length c.args.host.bases = ap (λ (h : HostView (LogView g.row.F.Denot)). length h.bases) c.work_host-returned.ensures.host in
    let many = c.requires.many in
    let room = c.requires.folders.1 in
    (c.requires.folders.0, omega (arith, noted, same, many, room))

pub part_all-requires-clause-logs : goal.part_all-requires-clause-logs
part_all-requires-clause-logs g c =
    let stores : List (LogView g.row.F.Denot) = c.end_into-stores.result.items in
    let noted : length stores ≡ length c.work_host-returned.new.host.bases = noted_many _ _ _ _ stores c.end_into-stores.ensures.noted in
    let same : length c.work_host-returned.new.host.bases ≡ length c.args.host.bases = ap (λ (h : HostView (LogView g.row.F.Denot)). length h.bases) c.work_host-returned.ensures.host in
    let many = c.requires.many in
    let room = c.requires.logs.1 in
    (c.requires.logs.0, omega (arith, noted, same, many, room))

pub returns-clause-kept : goal.returns-clause-kept
returns-clause-kept g c =
    let F = g.row.F.Denot in
    let back = c.work_host-returned in
    let stores : List (LogView F) = c.end_into-stores.result.items in
    let lost : c.any_store_lost-lost.result ≡ list_any lost_store stores = c.any_store_lost-lost.ensures ∙ ap (list_any lost_store) c.deref.ensures.value in
    let ended : c.deref-2.result.now ≡ back.result.ends.items = c.deref-2.ensures.value in
    let both : (c.any_store_lost-lost.result, c.deref-2.result.now) ≡ (list_any lost_store stores, back.result.ends.items) = λ i. (lost i, ended i) in
    record {
      made = back.new.host.made;
      marks = back.result.marks;
      passes = back.result.passes.items;
      ends = back.result.ends.items;
      stores = stores;
      returned = back.ensures.returned;
      told = back.ensures.told;
      leaves = subst (λ (h : HostView (LogView F)). Leaves (files_of g.F.Folder.files) (faults_of g.F.Folder.faults) notes_of h back.result.passes.items stores) back.ensures.host c.end_into-stores.ensures;
      parted = c.part_all.ensures;
      end_is = sym (c.kept_end.ensures ∙ ap (λ (z : Bool × List WorkEnd). kept_end z.0 z.1) both);
    }
