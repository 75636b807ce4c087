use Rattle.std.proofs.Common.{◌≡◌, ◌<◌, ◌≤◌, ℕ, length, Some, sym, ap, ◌∙◌, arith}
use Rattle.kept_locks.specs.Locks.{Standing}
use Rattle.wopi_model.specs.declared.locks.Lock.{Lock}
use Rattle.host_core.specs.Whole.{standing_at}
use Rattle.host_core.proofs.Regains.{partly_put, stands_get}
use Rattle.host_core.proofs.relocking.put_turn.Goals as goal

pub returns-in-Some-clause-part : goal.returns-in-Some-clause-part
returns-in-Some-clause-part c =
    let told = c.args.told.now.items in
    let number = c.args.turn.number in
    let lt : number < length told = omega (arith, c.if-turn-len.false, c.len.ensures, c.args.told.now.ok.0) in
    let stands = ap (λ (s : Standing). s.lock) (stands_get told number c.index.result.now lt c.index.ensures) in
    let view = ap (λ (s : Standing). s.lock) c.behind-told.view_is in
    let copy = ap (λ (l : Lock). Some l) c.copy.ensures in
    let lock : (standing_at told number).lock ≡ Some c.copy.result = cc (stands, view, c.in-Some.is, copy) in
    partly_put told c.args.locks.now.files c.put_lock.new.locks.files number c.copy.result c.requires.part lock c.put_lock.ensures.here c.put_lock.ensures.others
