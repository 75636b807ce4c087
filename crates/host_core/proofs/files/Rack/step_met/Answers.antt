use Rattle.std.proofs.Common.{◌≡◌, ◌≤◌, ◌^◌, ◌∙◌, ℕ, List, sym, ap, arith, ◌-◌}
use Rattle.std.proofs.lemmas.List.{length-set}
use Rattle.kept_locks.specs.Locks.{Locks}
use Rattle.host_core.specs.Whole.{seen, standing_at, joined}
use Rattle.host_core.specs.Names.{place_in}
use Rattle.host_core.proofs.Dating.{marks_set}
use Rattle.host_core.proofs.Digesting.{set_back}
use Rattle.host_core.proofs.Joining.{get_joined, long_joined, names_joined}
use Rattle.host_core.proofs.Meeting.{met_all, met_stopped, place_below, locked_turn, locked_same, within_at}
use Rattle.host_core.proofs.Numbering.{named_set}
use Rattle.host_core.proofs.Stocks.{place_at}
use Rattle.host_core.proofs.files.Rack.step_met.Goals as goal

pub returns-in-Ok-clause-marks : goal.returns-in-Ok-clause-marks
returns-in-Ok-clause-marks g c =
    let files = c.args.self.now.files.items in
    let ss = c.args.self.now.locks.files in
    let call = c.args.call.now in
    let at = ap (λ (n : List (List ℕ)). place_in n call.name) (sym (names_joined files ss)) ∙ place_at (joined files ss) call.name c.args.number c.requires.place in
    marks_set files c.args.number c.index_mut-file.result.now c.step_file.new.file call c.step_file.new.carried.ruling c.args.terms.time at c.index_mut-file.ensures.value
    (place_below files ss call.name c.args.number c.requires.place) c.in-Ok.ensures.ok.steps.name c.in-Ok.ensures.marks

pub returns-in-Err-clause-unmarked : goal.returns-in-Err-clause-unmarked
returns-in-Err-clause-unmarked g c =
    set_back c.args.self.now.files.items c.args.number c.index_mut-file.result.now c.step_file.new.file c.index_mut-file.ensures.value c.in-Err.ensures.unmarked

pub step_file-requires-clause-ready : goal.step_file-requires-clause-ready
step_file-requires-clause-ready g c =
    let lt = place_below c.args.self.now.files.items c.args.self.now.locks.files c.args.call.now.name c.args.number c.requires.place in
    let long = c.requires.ready.locked.long in
    record { here = omega (arith, lt, long); spare = c.requires.ready.spare; as_of = c.requires.ready.locked.as_of }

pub returns-in-Ok-clause-ok : goal.returns-in-Ok-clause-ok
returns-in-Ok-clause-ok g c = λ first.
    let turns = c.in-Ok.ensures.turns in
    record {
      steps = met_all first (g.F.Store.files c.args.folder.now) (g.F.Store.files c.step_file.new.folder) c.args.terms.kept (g.F.Store.notes c.args.folder.now).saved (g.F.Store.notes c.step_file.new.folder).saved
          (g.F.Store.faults c.args.folder.now) (g.F.Store.faults c.step_file.new.folder) c.args.self.now.files.items c.args.number c.index_mut-file.result.now c.step_file.new.file
          c.args.self.now.locks c.step_file.new.locks c.args.call.now c.args.terms.opened c.args.terms.time c.step_file.new.carried c.requires.place c.index_mut-file.ensures.value turns c.in-Ok.ensures.ok;
      locked = locked_turn c.args.self.now.files.items _ c.args.self.now.locks c.step_file.new.locks c.args.number c.args.terms.time c.args.terms.time c.requires.ready.locked
          (place_below c.args.self.now.files.items c.args.self.now.locks.files c.args.call.now.name c.args.number c.requires.place) (length-set c.args.self.now.files.items c.args.number _) turns;
      stand = turns.stand;
      spare = turns.spare;
      room = turns.room;
    }

pub returns-in-Err-clause-err : goal.returns-in-Err-clause-err
returns-in-Err-clause-err g c = λ first.
    let same = c.in-Err.ensures.same in
    let spare : c.step_file.new.locks.spare ≡ c.args.self.now.locks.spare = ap (λ (l : Locks). l.spare) same in
    record {
      stops = met_stopped first (g.F.Store.files c.args.folder.now) (g.F.Store.files c.step_file.new.folder) c.args.terms.kept (g.F.Store.notes c.args.folder.now).saved (g.F.Store.notes c.step_file.new.folder).saved
          c.args.self.now.files.items c.args.number c.index_mut-file.result.now c.step_file.new.file c.args.self.now.locks c.step_file.new.locks
          c.args.call.now c.args.terms.opened c.args.terms.time c.in-Err.why c.requires.place c.index_mut-file.ensures.value same c.in-Err.ensures.err;
      locked = λ time locked. locked_same c.args.self.now.files.items _ c.args.self.now.locks c.step_file.new.locks time (length-set c.args.self.now.files.items c.args.number _) same locked;
      stand = λ n. ap (λ (l : Locks). standing_at l.files n) same;
      spare = omega (arith, spare);
      room = ap (λ (l : Locks). l.room) same;
      light = c.in-Err.ensures.light;
    }

pub returns-in-Ok-clause-names : goal.returns-in-Ok-clause-names
returns-in-Ok-clause-names g c =
    named_set c.args.self.now.files.items c.args.number c.index_mut-file.result.now c.step_file.new.file c.index_mut-file.ensures.value c.in-Ok.ensures.ok.steps.name

pub returns-in-Err-clause-names : goal.returns-in-Err-clause-names
returns-in-Err-clause-names g c =
    named_set c.args.self.now.files.items c.args.number c.index_mut-file.result.now c.step_file.new.file c.index_mut-file.ensures.value c.in-Err.ensures.err.file.name

pub index_mut-file-requires : goal.index_mut-file-requires
index_mut-file-requires g c =
    let lt = place_below c.args.self.now.files.items c.args.self.now.locks.files c.args.call.now.name c.args.number c.requires.place in
    omega (arith, lt, c.args.self.now.files.ok.0)

pub step_file-requires-clause-version : goal.step_file-requires-clause-version
step_file-requires-clause-version g c =
    let files = c.args.self.now.files.items in
    let ss = c.args.self.now.locks.files in
    let lt = place_below files ss c.args.call.now.name c.args.number c.requires.place in
    let long = long_joined files ss in
    let le : c.index_mut-file.result.now.version ≤ 2 ^ 64 - 2 =
    within_at (2 ^ 64 - 2) (joined files ss) c.args.number (seen c.index_mut-file.result.now c.args.self.now.locks c.args.number) c.requires.within
    (get_joined files c.args.number c.index_mut-file.result.now ss c.index_mut-file.ensures.value) (omega (arith, lt, long)) in
    omega (arith, le)
