use Rattle.std.proofs.Common.{◌≡◌, ℕ, List, length, ap, sym, subst, ◌∙◌, arith}
use Rattle.std.proofs.lemmas.List.{length-map}
use Rattle.name_index.specs.Index.{number_of}
use Rattle.host_core.specs.declared.file.KeptFile.{KeptFile}
use Rattle.host_core.specs.Names.{AreOnce, place_in}
use Rattle.host_core.specs.Numbers.{named}
use Rattle.host_core.specs.Files.{BeganAtMoment}
use Rattle.host_core.proofs.Joining.{long_joined}
use Rattle.host_core.proofs.Results.{onok_map, iferr_map, iferr_onerr}
use Rattle.host_core.proofs.Meeting.{lock_at, found_first, found_none, room_raw}
use Rattle.host_core.proofs.files.Rack.step_files.Goals as goal

pub step_met-requires-clause-place : goal.step_met-requires-clause-place
step_met-requires-clause-place g c =
    found_first c.args.self.now.files.items c.args.self.now.locks.files c.args.self.now.index c.args.call.now.name c.in-Some.number c.requires.numbered c.in-Some.ensures

pub step_met-requires-clause-moment : goal.step_met-requires-clause-moment
step_met-requires-clause-moment g c =
    subst BeganAtMoment
    (lock_at c.args.terms.first c.args.self.now.files.items c.args.self.now.locks.files c.args.call.now.name c.in-Some.number (sym (c.requires.numbered c.args.call.now.name) ∙ sym c.in-Some.ensures))
    c.requires.moment

pub step_unmet-requires-clause-place : goal.step_unmet-requires-clause-place
step_unmet-requires-clause-place g c =
    found_none c.args.self.now.files.items c.args.self.now.locks.files c.args.self.now.index c.args.call.now.name c.requires.numbered c.in-None.ensures

-- the names are as many as the files
long_named : (files files' : List KeptFile) → named files' ≡ named files → length files' ≡ length files
long_named files files' same = sym (length-map files' (λ kept. kept.name)) ∙ ap (λ (names : List (List ℕ)). length names) same ∙ length-map files (λ kept. kept.name)

pub returns-in-Some-clause-few : goal.returns-in-Some-clause-few
returns-in-Some-clause-few g c =
    let long = long_named c.args.self.now.files.items c.step_met.new.self.files.items c.step_met.ensures.names in
    onok_map c.step_met.result _ _ (λ kept. omega (arith, long, c.requires.ready.few)) c.step_met.ensures.ok

pub returns-in-Some-clause-long : goal.returns-in-Some-clause-long
returns-in-Some-clause-long g c =
    iferr_onerr c.step_met.result _ _
    (λ why kept. let few = (kept c.args.terms.first).stops.few in let was = long_joined c.args.self.now.files.items c.args.self.now.locks.files in let is = long_joined c.step_met.new.self.files.items c.step_met.new.self.locks.files in omega (arith, few, was, is))
    c.step_met.ensures.err

pub returns-in-Some-clause-room : goal.returns-in-Some-clause-room
returns-in-Some-clause-room g c =
    onok_map c.step_met.result _ _
    (λ kept. room_raw c.args.terms.first c.args.self.now.files.items c.args.self.now.locks.files c.args.call.now.name c.args.terms.kept c.args.call.now c.args.terms.opened c.args.terms.time (kept c.args.terms.first).steps.room)
    c.step_met.ensures.ok

pub returns-in-None-clause-long : goal.returns-in-None-clause-long
returns-in-None-clause-long g c =
    iferr_onerr c.step_unmet.result _ _
    (λ why kept. let few = kept.stops.few in let was = long_joined c.args.self.now.files.items c.args.self.now.locks.files in let is = long_joined c.step_unmet.new.self.files.items c.step_unmet.new.self.locks.files in omega (arith, few, was, is))
    c.step_unmet.ensures.err

pub returns-in-None-clause-room : goal.returns-in-None-clause-room
returns-in-None-clause-room g c =
    onok_map c.step_unmet.result _ _
    (λ kept. room_raw c.args.terms.first c.args.self.now.files.items c.args.self.now.locks.files c.args.call.now.name c.args.terms.kept c.args.call.now c.args.terms.opened c.args.terms.time kept.steps.room)
    c.step_unmet.ensures.ok

pub returns-in-Some-clause-ok : goal.returns-in-Some-clause-ok
returns-in-Some-clause-ok g c = onok_map c.step_met.result _ _ (λ kept. kept c.args.terms.first) c.step_met.ensures.ok

pub returns-in-Some-clause-err : goal.returns-in-Some-clause-err
returns-in-Some-clause-err g c = iferr_map c.step_met.result _ _ (λ why kept. kept c.args.terms.first) c.step_met.ensures.err

pub returns-in-Some-clause-numbered : goal.returns-in-Some-clause-numbered
returns-in-Some-clause-numbered g c = λ name.
    ap (λ (index : List (List ℕ × ℕ)). number_of index name) c.step_met.ensures.index ∙ c.requires.numbered name ∙ sym (ap (λ (names : List (List ℕ)). place_in names name) c.step_met.ensures.names)

pub returns-in-Some-clause-once : goal.returns-in-Some-clause-once
returns-in-Some-clause-once g c = λ once. subst AreOnce (sym c.step_met.ensures.names) once
