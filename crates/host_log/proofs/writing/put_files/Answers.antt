use Rattle.std.proofs.Common.{ℕ, List, ap, option_map, subst}
use Rattle.kept_locks.specs.Locks.{Standing}
use Rattle.host_table.specs.Writing.{Gathers}
use Rattle.host_log.proofs.Texts.{none_locked, some_locked}
use Rattle.host_log.proofs.writing.put_files.Goals as goal

pub returns-in-None-clause-bytes : goal.returns-in-None-clause-bytes
returns-in-None-clause-bytes g c =
    let s = c.args.start.now in
    let opened = rw c.deref.ensures.value at c.put_all_opened.ensures.bytes in
    let text = none_locked s.first s.files.now.items _ (ap (option_map {U = List Standing} (λ locks. locks.now.items)) c.in-None.is) in
    subst (λ (l : List ℕ). Gathers (g.L.Sink.held c.args.log.now) (g.L.Sink.held c.put_all_opened.new.log) c.args.room.now.bytes.items c.put_all_opened.new.room.bytes.items c.put_all_opened.result l)
    text opened

pub returns-in-Some-clause-bytes : goal.returns-in-Some-clause-bytes
returns-in-Some-clause-bytes g c =
    let s = c.args.start.now in
    let files = rw c.deref-in-Some.ensures.value at c.put_all_whole.ensures.bytes in
    let whole = rw c.deref-in-Some-2.ensures.value at files in
    let text = some_locked s.first s.files.now.items _ c.in-Some.locks.now.items (ap (option_map {U = List Standing} (λ locks. locks.now.items)) c.in-Some.is) in
    subst (λ (l : List ℕ). Gathers (g.L.Sink.held c.args.log.now) (g.L.Sink.held c.put_all_whole.new.log) c.args.room.now.bytes.items c.put_all_whole.new.room.bytes.items c.put_all_whole.result l)
    text whole
