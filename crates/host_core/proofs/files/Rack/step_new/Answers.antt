use Rattle.std.proofs.Common.{◌≡◌, ◌==◌, ◌-◌, ℕ, List, [], ◌∷◌, ◌++◌, length, sym, ap, subst, ◌∙◌, arith, ◌+◌}
use Rattle.std.proofs.lemmas.List.{length-map, length-append}
use Rattle.wopi_model.specs.File.{File}
use Rattle.kept_locks.specs.Locks.{Standing, Locks, all_ended}
use Rattle.host_core.specs.declared.file.KeptFile.{KeptFile}
use Rattle.host_core.specs.Facts.{MarksAll}
use Rattle.host_core.specs.Files.{BeganAtMoment}
use Rattle.host_core.specs.Names.{AreOnce}
use Rattle.host_core.specs.Numbers.{named, IsNumbered, AreLocked}
use Rattle.host_core.specs.Steps.{StepsAll}
use Rattle.host_core.specs.Turns.{Turns}
use Rattle.host_core.specs.Whole.{seen, standing_at, joined}
use Rattle.wopi_text.proofs.Disjunctions.{or_none}
use Rattle.host_core.proofs.Dating.{marks_push, marks_skip, saves_refused, unmet_number}
use Rattle.host_core.proofs.Counts.{once_push}
use Rattle.host_core.proofs.Light.{create_takes}
use Rattle.host_core.proofs.Meeting.{push_all, skip_all, skip_bare, still_all, stopped_new, bare_seen, fresh_name, joined_more, locked_more, locked_push, locked_skip}
use Rattle.host_core.proofs.Numbering.{numbered_push, numbered_back, named_push}
use Rattle.host_core.proofs.files.Rack.step_new.Goals as goal

pub returns-then-is_met_by-clause-marks : goal.returns-then-is_met_by-clause-marks
returns-then-is_met_by-clause-marks g c =
    let kept = c.args.self.now.files.items in
    let call = c.args.call.now in
    let ruling = c.step_file.new.carried.ruling in
    let k = c.unmet-file.result in
    let k' = c.step_file.new.file in
    let none = unmet_number kept c.args.self.now.locks.files call.name c.requires.place in
    let name_is = c.in-Ok-step_file.ensures.ok.steps.name ∙ c.unmet-file.ensures.name ∙ c.copy-name.ensures in
    let met : c.meet.new.files.items ≡ kept ++ k' ∷ [] = c.meet.ensures ∙ ap (λ (f : List KeptFile). f ++ k' ∷ []) c.make_place.ensures.files in
    subst (λ (f : List KeptFile). MarksAll kept f call ruling c.args.terms.time) (sym met)
    (marks_push kept k k' call ruling c.args.terms.time none c.unmet-file.ensures.saved c.unmet-file.ensures.digest name_is c.in-Ok-step_file.ensures.marks)

pub returns-in-Ok-step_file-clause-marks : goal.returns-in-Ok-step_file-clause-marks
returns-in-Ok-step_file-clause-marks g c =
    let kept = c.args.self.now.files.items in
    let call = c.args.call.now in
    let ruling = c.step_file.new.carried.ruling in
    let turned = or_none (ruling.status == 200) (ruling.status == 500) (sym c.is_met_by.ensures ∙ c.if-is_met_by.false) in
    subst (λ (f : List KeptFile). MarksAll kept f call ruling c.args.terms.time) (sym c.make_place.ensures.files)
    (marks_skip kept call ruling c.args.terms.time (saves_refused call.act ruling turned.0))

pub make_place-requires-clause-fresh : goal.make_place-requires-clause-fresh
make_place-requires-clause-fresh g c =
    fresh_name c.args.self.now.files.items c.args.self.now.locks.files c.args.self.now.index c.args.call.now.name c.copy-name.result c.requires.numbered c.requires.place c.copy-name.ensures

pub make_place-requires-clause-number : goal.make_place-requires-clause-number
make_place-requires-clause-number g c = omega (arith, c.args.self.now.files.ok.0, c.len-number.ensures)

pub step_file-requires-clause-moment : goal.step_file-requires-clause-moment
step_file-requires-clause-moment g c =
    let number = c.len-number.result in
    let at : number ≡ length c.args.self.now.files.items = omega (arith, c.args.self.now.files.ok.0, c.len-number.ensures) in
    subst (λ (s : Standing). BeganAtMoment s.lock) (sym (c.make_place.ensures.stands number ∙ c.requires.ready.locked.beyond number (omega (arith, at)))) tt

pub step_file-requires-clause-version : goal.step_file-requires-clause-version
step_file-requires-clause-version g c =
    let begin : c.unmet-file.result.version ≡ c.args.terms.first - 1 = ap (λ (f : File). f.version) c.unmet-file.ensures.file in
    let low = c.requires.first.0 in
    let most = c.requires.first.1 in
    omega (arith, begin, low, most)

pub step_file-requires-clause-ready : goal.step_file-requires-clause-ready
step_file-requires-clause-ready g c =
    let number = c.len-number.result in
    let at : number ≡ length c.args.self.now.files.items = omega (arith, c.args.self.now.files.ok.0, c.len-number.ensures) in
    let room = c.in-Ok.ensures.room in
    let spare = c.requires.ready.spare in
    let same = c.make_place.ensures.spare in
    record { here = omega (arith, room, at); spare = omega (arith, spare, same); as_of = c.make_place.ensures.as_of c.args.terms.time c.requires.ready.locked.as_of }

pub returns-in-Err-clause-err : goal.returns-in-Err-clause-err
returns-in-Err-clause-err g c =
    let kept = c.args.self.now.files.items in
    let first = c.args.self.now.locks in
    let placed = c.make_place.ensures in
    let same = placed.spare in
    record {
      stops = still_all c.args.terms.first (g.F.Store.files c.args.folder.now) c.args.terms.kept (g.F.Store.notes c.args.folder.now).saved (joined kept first.files) _ c.args.call.now c.args.terms.opened c.args.terms.time _
          (joined_more kept c.make_place.new.files.items first c.make_place.new.locks placed.files placed.stands) (λ h. cc);
      locked = λ time locked. locked_more kept c.make_place.new.files.items first c.make_place.new.locks time placed.files placed.stands placed.as_of placed.longer locked;
      stand = placed.stands;
      spare = omega (arith, same);
      room = placed.kept;
      light = create_takes c.args.call.now.act c.requires.create;
    }

pub returns-in-Err-clause-numbered : goal.returns-in-Err-clause-numbered
returns-in-Err-clause-numbered g c =
    subst (λ (f : List KeptFile). IsNumbered c.make_place.new.index (named f)) (sym c.make_place.ensures.files)
    (subst (λ (i : List (List ℕ × ℕ)). IsNumbered i (named c.args.self.now.files.items)) (sym c.in-Err.ensures.err) c.requires.numbered)

pub returns-then-is_met_by-clause-ok : goal.returns-then-is_met_by-clause-ok
returns-then-is_met_by-clause-ok g c =
    let folder = g.F.Store.files c.args.folder.now in
    let folder' = g.F.Store.files c.step_file.new.folder in
    let began = g.F.Store.faults c.args.folder.now in
    let count = g.F.Store.faults c.step_file.new.folder in
    let bytes = c.args.terms.kept in
    let v = (g.F.Store.notes c.args.folder.now).saved in
    let v' = (g.F.Store.notes c.step_file.new.folder).saved in
    let kept = c.args.self.now.files.items in
    let first = c.args.self.now.locks in
    let mid = c.make_place.new.locks in
    let new = c.step_file.new.locks in
    let number = c.len-number.result in
    let at : number ≡ length kept = omega (arith, c.args.self.now.files.ok.0, c.len-number.ensures) in
    let k = c.unmet-file.result in
    let k' = c.step_file.new.file in
    let stands = c.make_place.ensures.stands in
    let beyond = c.requires.ready.locked.beyond in
    let turns = c.in-Ok-step_file.ensures.turns in
    let same = c.make_place.ensures.spare in
    let more = turns.spare in
    let named_k : k.name ≡ c.args.call.now.name = c.unmet-file.ensures.name ∙ c.copy-name.ensures in
    let met : c.meet.new.files.items ≡ kept ++ k' ∷ [] = c.meet.ensures ∙ ap (λ (f : List KeptFile). f ++ k' ∷ []) c.make_place.ensures.files in
    record {
      steps = subst (λ (f : List KeptFile). StepsAll c.args.terms.first folder folder' bytes v v' began count (joined kept (all_ended c.args.terms.time first.files)) (joined f new.files) c.args.call.now c.args.terms.opened c.args.terms.time c.step_file.new.carried) (sym met)
          (push_all c.args.terms.first folder folder' bytes v v' began count kept number k k' first mid new c.args.call.now c.args.terms.opened c.args.terms.time c.step_file.new.carried c.requires.place stands beyond
          c.unmet-file.ensures.file c.unmet-file.ensures.torn named_k at turns c.in-Ok-step_file.ensures.ok);
      locked = subst (λ (f : List KeptFile). AreLocked f new c.args.terms.time) (sym met)
          (locked_push kept k' mid new c.args.terms.time (λ n le. stands n ∙ beyond n le) c.in-Ok.ensures.room (subst (λ (n : ℕ). Turns mid new n c.args.terms.time) at turns));
      stand = turns.stand;
      spare = omega (arith, same, more);
      room = turns.room ∙ c.make_place.ensures.kept;
    }

pub returns-then-is_met_by-clause-numbered : goal.returns-then-is_met_by-clause-numbered
returns-then-is_met_by-clause-numbered g c =
    let kept = c.args.self.now.files.items in
    let number = c.len-number.result in
    let at : number ≡ length kept = omega (arith, c.args.self.now.files.ok.0, c.len-number.ensures) in
    let k' = c.step_file.new.file in
    let met : c.meet.new.files.items ≡ kept ++ k' ∷ [] = c.meet.ensures ∙ ap (λ (f : List KeptFile). f ++ k' ∷ []) c.make_place.ensures.files in
    let name_is : k'.name ≡ c.copy-name.result = c.in-Ok-step_file.ensures.ok.steps.name ∙ c.unmet-file.ensures.name in
    let names : named c.meet.new.files.items ≡ named kept ++ c.copy-name.result ∷ [] = ap named met ∙ named_push kept k' ∙ ap (λ (n : List ℕ). named kept ++ n ∷ []) name_is in
    let fresh = fresh_name kept c.args.self.now.locks.files c.args.self.now.index c.args.call.now.name c.copy-name.result c.requires.numbered c.requires.place c.copy-name.ensures in
    subst (IsNumbered c.make_place.new.index) (sym names)
    (numbered_push c.args.self.now.index c.make_place.new.index (named kept) c.copy-name.result number c.requires.numbered fresh (at ∙ sym (length-map kept (λ (f : KeptFile). f.name))) c.in-Ok.ensures.index)

pub returns-then-is_met_by-clause-few : goal.returns-then-is_met_by-clause-few
returns-then-is_met_by-clause-few g c =
    let kept = c.args.self.now.files.items in
    let k' = c.step_file.new.file in
    let met : c.meet.new.files.items ≡ kept ++ k' ∷ [] = c.meet.ensures ∙ ap (λ (f : List KeptFile). f ++ k' ∷ []) c.make_place.ensures.files in
    let long : length c.meet.new.files.items ≡ length kept + 1 = ap (λ (f : List KeptFile). length f) met ∙ length-append kept (k' ∷ []) in
    omega (arith, long, c.in-Ok.ensures.few)

pub returns-then-is_met_by-clause-once : goal.returns-then-is_met_by-clause-once
returns-then-is_met_by-clause-once g c = λ once.
    let kept = c.args.self.now.files.items in
    let k' = c.step_file.new.file in
    let met : c.meet.new.files.items ≡ kept ++ k' ∷ [] = c.meet.ensures ∙ ap (λ (f : List KeptFile). f ++ k' ∷ []) c.make_place.ensures.files in
    let name_is : k'.name ≡ c.copy-name.result = c.in-Ok-step_file.ensures.ok.steps.name ∙ c.unmet-file.ensures.name in
    let names : named c.meet.new.files.items ≡ named kept ++ c.copy-name.result ∷ [] = ap named met ∙ named_push kept k' ∙ ap (λ (n : List ℕ). named kept ++ n ∷ []) name_is in
    let fresh = fresh_name kept c.args.self.now.locks.files c.args.self.now.index c.args.call.now.name c.copy-name.result c.requires.numbered c.requires.place c.copy-name.ensures in
    subst AreOnce (sym names) (once_push (named kept) c.copy-name.result (sym (c.requires.numbered c.copy-name.result) ∙ fresh) once)

pub returns-in-Ok-step_file-clause-few : goal.returns-in-Ok-step_file-clause-few
returns-in-Ok-step_file-clause-few g c =
    let long : length c.make_place.new.files.items ≡ length c.args.self.now.files.items = ap (λ (f : List KeptFile). length f) c.make_place.ensures.files in
    omega (arith, long, c.requires.ready.few)

pub returns-in-Ok-step_file-clause-once : goal.returns-in-Ok-step_file-clause-once
returns-in-Ok-step_file-clause-once g c = λ once. subst (λ (f : List KeptFile). AreOnce (named f)) (sym c.make_place.ensures.files) once

pub returns-in-Err-step_file-clause-once : goal.returns-in-Err-step_file-clause-once
returns-in-Err-step_file-clause-once g c = λ once. subst (λ (f : List KeptFile). AreOnce (named f)) (sym c.make_place.ensures.files) once

pub returns-in-Err-clause-once : goal.returns-in-Err-clause-once
returns-in-Err-clause-once g c = λ once. subst (λ (f : List KeptFile). AreOnce (named f)) (sym c.make_place.ensures.files) once

pub returns-in-Ok-step_file-clause-ok : goal.returns-in-Ok-step_file-clause-ok
returns-in-Ok-step_file-clause-ok g c =
    let folder = g.F.Store.files c.args.folder.now in
    let folder' = g.F.Store.files c.step_file.new.folder in
    let began = g.F.Store.faults c.args.folder.now in
    let count = g.F.Store.faults c.step_file.new.folder in
    let bytes = c.args.terms.kept in
    let v = (g.F.Store.notes c.args.folder.now).saved in
    let v' = (g.F.Store.notes c.step_file.new.folder).saved in
    let kept = c.args.self.now.files.items in
    let first = c.args.self.now.locks in
    let mid = c.make_place.new.locks in
    let new = c.step_file.new.locks in
    let number = c.len-number.result in
    let at : number ≡ length kept = omega (arith, c.args.self.now.files.ok.0, c.len-number.ensures) in
    let k = c.unmet-file.result in
    let k' = c.step_file.new.file in
    let stands = c.make_place.ensures.stands in
    let beyond = c.requires.ready.locked.beyond in
    let turns = c.in-Ok-step_file.ensures.turns in
    let same = c.make_place.ensures.spare in
    let more = turns.spare in
    let turned = sym c.is_met_by.ensures ∙ c.if-is_met_by.false in
    let bare = stands number ∙ beyond number (omega (arith, at)) in
    let after = skip_bare c.args.terms.first folder folder' bytes v v' began count number k k' mid new c.args.call.now c.args.terms.opened c.args.terms.time c.step_file.new.carried bare c.unmet-file.ensures.file turned c.in-Ok-step_file.ensures.ok in
    record {
      steps = subst (λ (f : List KeptFile). StepsAll c.args.terms.first folder folder' bytes v v' began count (joined kept (all_ended c.args.terms.time first.files)) (joined f new.files) c.args.call.now c.args.terms.opened c.args.terms.time c.step_file.new.carried) (sym c.make_place.ensures.files)
          (skip_all c.args.terms.first folder folder' bytes v v' began count kept number k k' first mid new c.args.call.now c.args.terms.opened c.args.terms.time c.step_file.new.carried c.requires.place stands beyond
          c.unmet-file.ensures.file c.unmet-file.ensures.torn at turns turned c.in-Ok-step_file.ensures.ok);
      locked = subst (λ (f : List KeptFile). AreLocked f new c.args.terms.time) (sym c.make_place.ensures.files)
          (locked_skip kept mid new number c.args.terms.time (λ n le. stands n ∙ beyond n le) c.in-Ok.ensures.room at after turns);
      stand = turns.stand;
      spare = omega (arith, same, more);
      room = turns.room ∙ c.make_place.ensures.kept;
    }

pub returns-in-Ok-step_file-clause-numbered : goal.returns-in-Ok-step_file-clause-numbered
returns-in-Ok-step_file-clause-numbered g c =
    let kept = c.args.self.now.files.items in
    let fresh = fresh_name kept c.args.self.now.locks.files c.args.self.now.index c.args.call.now.name c.copy-name.result c.requires.numbered c.requires.place c.copy-name.ensures in
    subst (λ (f : List KeptFile). IsNumbered c.remove.new.self (named f)) (sym c.make_place.ensures.files)
    (numbered_back c.args.self.now.index c.make_place.new.index c.remove.new.self (named kept) c.copy-name.result c.len-number.result c.requires.numbered fresh c.in-Ok.ensures.index c.remove.ensures)

pub returns-in-Err-step_file-clause-err : goal.returns-in-Err-step_file-clause-err
returns-in-Err-step_file-clause-err g c =
    let kept = c.args.self.now.files.items in
    let first = c.args.self.now.locks in
    let mid = c.make_place.new.locks in
    let new = c.step_file.new.locks in
    let number = c.len-number.result in
    let at : number ≡ length kept = omega (arith, c.args.self.now.files.ok.0, c.len-number.ensures) in
    let k = c.unmet-file.result in
    let placed = c.make_place.ensures in
    let stopped = c.in-Err-step_file.ensures in
    let stand : (n : ℕ) → standing_at new.files n ≡ standing_at first.files n = λ n. ap (λ (l : Locks). standing_at l.files n) stopped.same ∙ placed.stands n in
    let is = bare_seen c.args.terms.first k first mid kept number c.args.terms.time c.requires.ready.locked placed.stands at c.unmet-file.ensures.file in
    let one = placed.spare in
    let two : new.spare ≡ mid.spare = ap (λ (l : Locks). l.spare) stopped.same in
    record {
      stops = stopped_new c.args.terms.first (g.F.Store.files c.args.folder.now) (g.F.Store.files c.step_file.new.folder) c.args.terms.kept (g.F.Store.notes c.args.folder.now).saved (g.F.Store.notes c.step_file.new.folder).saved
          (joined kept first.files) _ (seen k mid number) (seen c.step_file.new.file new number) c.args.call.now c.args.terms.opened c.args.terms.time c.in-Err-step_file.why
          (joined_more kept c.make_place.new.files.items first new placed.files stand) c.requires.place is stopped.err;
      locked = λ time locked. subst (λ l. AreLocked c.make_place.new.files.items l time) (sym stopped.same)
          (locked_more kept c.make_place.new.files.items first mid time placed.files placed.stands placed.as_of placed.longer locked);
      stand = stand;
      spare = omega (arith, one, two);
      room = ap (λ (l : Locks). l.room) stopped.same ∙ placed.kept;
      light = stopped.light;
    }

pub returns-in-Err-step_file-clause-numbered : goal.returns-in-Err-step_file-clause-numbered
returns-in-Err-step_file-clause-numbered g c =
    let kept = c.args.self.now.files.items in
    let fresh = fresh_name kept c.args.self.now.locks.files c.args.self.now.index c.args.call.now.name c.copy-name.result c.requires.numbered c.requires.place c.copy-name.ensures in
    subst (λ (f : List KeptFile). IsNumbered c.remove-in-Err-step_file.new.self (named f)) (sym c.make_place.ensures.files)
    (numbered_back c.args.self.now.index c.make_place.new.index c.remove-in-Err-step_file.new.self (named kept) c.copy-name.result c.len-number.result c.requires.numbered fresh c.in-Ok.ensures.index c.remove-in-Err-step_file.ensures)
