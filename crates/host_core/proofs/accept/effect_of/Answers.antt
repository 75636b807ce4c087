use Rattle.std.specs.Prelude.{Option}
use Rattle.std.proofs.Common.{◌∙◌, ap, sym}
use Rattle.wopi_model.specs.declared.locks.Lock.{Lock}
use Rattle.wopi_model.specs.declared.locks.LockAct.{LockAct}
use Rattle.wopi_model.specs.Act.{lock_act}
use Rattle.wopi_model.specs.LockTable as table
use Rattle.wopi_model.specs.Settle.{standing}
use Rattle.lock_machine.specs.Asks.{act_of}
use Rattle.lock_machine.specs.Changes.{left_by, taken_by}
use Rattle.host_core.specs.Files.{file_of}
use Rattle.host_core.specs.Whole.{seen, standing_at}
use Rattle.host_core.proofs.Turning.{ends_by, taken_same}
use Rattle.host_core.proofs.accept.effect_of.Goals as goal

pub returns-clause-lock : goal.returns-clause-lock
returns-clause-lock c =
    let held = standing (standing_at c.args.locks.now.files c.args.number).lock c.args.now in
    let file = file_of (seen c.args.file.now c.args.locks.now c.args.number) in
    let act = c.args.call.now.act in
    let expires = c.args.call.now.token.expires in
    let asked = act_of c.lock_ask-ask.result in
    let change = c.change_by.result in
    ap (left_by change held) (sym (taken_same file act) ∙ ap taken_by (sym c.lock_ask-ask.ensures))
    ∙ ap (λ (lock : Option Lock). left_by change lock (taken_by asked)) (sym c.standing_lock-held.ensures)
    ∙ c.change_by.ensures
    ∙ ap (λ (lock : Option Lock). table.lock_after lock asked expires c.args.now) c.standing_lock-held.ensures
    ∙ ap (λ (one : LockAct). table.lock_after held one expires c.args.now) c.lock_ask-ask.ensures

pub returns-clause-ends : goal.returns-clause-ends
returns-clause-ends c =
    ends_by (standing_at c.args.locks.now.files c.args.number).lock _ (lock_act (file_of (seen c.args.file.now c.args.locks.now c.args.number)) c.args.call.now.act) c.args.call.now.token.expires c.args.now
    (returns-clause-lock c)
