use Rattle.std.proofs.Common.{ℕ, List, ◌++◌, subst}
use Rattle.std.specs.List.{flat_map}
use Rattle.outside.specs.Stream.{GrewByPrefix}
use Rattle.kept_locks.specs.Locks.{Standing}
use Rattle.host_table.specs.Writing.{Gathers}
use Rattle.host_table.proofs.WritingLemmas.{cut_longer, gathers_then}
use Rattle.host_log.specs.Rows.{held_text, locks_text, spent_line}
use Rattle.host_log.proofs.writing.put_both.Goals as goal

pub returns-in-Err-clause-bytes : goal.returns-in-Err-clause-bytes
returns-in-Err-clause-bytes g c =
    let name : List ℕ = c.args.name.now in
    let i = c.locks.inside in
    let a = g.L.Sink.held c.args.log.now in
    let b = g.L.Sink.held c.put_held.new.log in
    let p : List ℕ = c.args.room.now.bytes.items in
    subst (λ (s : Standing). GrewByPrefix a b (p ++ locks_text name s)) c.locks.view_is
    (cut_longer a b p (held_text name i.lock) (flat_map (spent_line name) i.spent.items) c.in-Err.ensures.bytes)

pub returns-clause-bytes : goal.returns-clause-bytes
returns-clause-bytes g c =
    let name : List ℕ = c.args.name.now in
    let i = c.locks.inside in
    let a = g.L.Sink.held c.args.log.now in
    let d = g.L.Sink.held c.put_all_spent.new.log in
    let p : List ℕ = c.args.room.now.bytes.items in
    let r : List ℕ = c.put_all_spent.new.room.bytes.items in
    let spent = rw c.deref.ensures.value at c.put_all_spent.ensures.bytes in
    subst (λ (s : Standing). Gathers a d p r c.put_all_spent.result (locks_text name s)) c.locks.view_is
    (gathers_then a (g.L.Sink.held c.put_held.new.log) d p c.put_held.new.room.bytes.items r c.put_all_spent.result (held_text name i.lock) (flat_map (spent_line name) i.spent.items)
    c.in-Ok.ensures.bytes spent)
