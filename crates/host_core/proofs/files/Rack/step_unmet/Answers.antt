use Rattle.std.proofs.Common.{◌==◌, List, refl, ap, sym, subst, ◌∙◌, arith}
use Rattle.kept_locks.specs.Locks.{Standing, all_ended}
use Rattle.host_core.specs.Steps.{StepsAll}
use Rattle.host_core.specs.Turns.{AllStand}
use Rattle.host_core.specs.Whole.{joined}
use Rattle.wopi_model.specs.declared.calls.Ruling.{Ruling}
use Rattle.wopi_model.specs.File.{never_met}
use Rattle.wopi_model.specs.Settle.{settled}
use Rattle.wopi_model.specs.Step.{decision}
use Rattle.host_core.proofs.Absent.{absent_differs, absent_steps}
use Rattle.host_core.proofs.Dating.{marks_skip, saves_refused, turned_status}
use Rattle.host_core.proofs.Meeting.{none_any, locked_ended}
use Rattle.host_core.proofs.Turning.{stand_ended}
use Rattle.host_core.proofs.files.Rack.step_unmet.Goals as goal

pub returns-clause-ok : goal.returns-clause-ok
returns-clause-ok g c =
    let files = g.F.Store.files c.args.folder.now in
    let count = g.F.Store.faults c.args.folder.now in
    let kept = c.args.self.now.files.items in
    let old = c.args.self.now.locks.files in
    let ended = all_ended c.args.terms.time old in
    let bytes = c.args.terms.kept in
    let v = (g.F.Store.notes c.args.folder.now).saved in
    let is = c.step_absent.ensures.locks in
    let spare = c.step_absent.ensures.spare in
    record {
      steps = subst (λ (l : List Standing). StepsAll c.args.terms.first files files bytes v v count count (joined kept ended) (joined kept l) c.args.call.now c.args.terms.opened c.args.terms.time c.step_absent.new.carried) (sym is)
          (absent_steps c.args.terms.first files bytes v count (joined kept ended) c.args.call.now c.args.terms.opened c.args.terms.time c.step_absent.new.carried
          (none_any kept old ended c.args.call.now.name c.requires.place) (sym c.is_create.ensures ∙ c.if-is_create.false)
          (c.step_absent.ensures.ruling c.args.terms.first) c.step_absent.ensures.back);
      locked = locked_ended kept c.args.self.now.locks c.step_absent.new.locks c.args.terms.time c.args.terms.time c.requires.ready.locked (omega arith) is c.step_absent.ensures.latest c.step_absent.ensures.chains;
      stand = subst (AllStand c.args.terms.time) (sym is) (stand_ended old c.args.terms.time);
      spare = omega (arith, spare);
      room = c.step_absent.ensures.room;
    }

pub returns-clause-marks : goal.returns-clause-marks
returns-clause-marks g c =
    let first = c.args.terms.first in
    let now = c.args.terms.time in
    let call = c.args.call.now in
    let ruling = c.step_absent.new.carried.ruling in
    let at = settled (never_met first) now in
    let opened = c.args.terms.opened in
    marks_skip c.args.self.now.files.items call ruling now (saves_refused call.act ruling (
    ap (λ (r : Ruling). r.status == 200) (c.step_absent.ensures.ruling first)
    ∙ turned_status (decision at call opened now) at call opened now refl (absent_differs first call opened now (sym c.is_create.ensures ∙ c.if-is_create.false))
    ))

pub step_new-requires-clause-create : goal.step_new-requires-clause-create
step_new-requires-clause-create g c = sym c.is_create.ensures ∙ c.if-is_create.true
