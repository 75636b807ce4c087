use Rattle.std.proofs.lemmas.Bool.{false_from_ne_true}
use Rattle.std.specs.Prelude.{not}
use Rattle.std.proofs.Common.{true, refl, sym, subst, ap, ◌≡◌, ◌∙◌}
use Rattle.host_core.specs.Value.{Book, state_of}
use Rattle.host_core.specs.Caller.{MakesForEditor, Refuses}
use Rattle.host_core.specs.Entries.{history_of}
use Rattle.host_core.specs.Facts.{facts_of, is_info, is_late, made_for, saved_at}
use Rattle.host_core.specs.Single.{sight_of}
use Rattle.host_core.specs.declared.caller.EditorReceipt.{EditorReceipt}
use Rattle.host_core.proofs.SingleCalls.{single_edits, single_refuses, single_frames, stepped}
use Rattle.host_core.proofs.single.SingleCaller.call_for_editor.Goals as goal

pub returns-in-Ok-clause-made : goal.returns-in-Ok-clause-made
returns-in-Ok-clause-made g c =
    let old = c.args.self.now.shard in
    let step = c.in-Ok.step in
    let answer : EditorReceipt = record {
      receipt = record { stamp = step.stamp; shard = 0; place = c.len-place.result; ruling = step.ruling; back = step.back; told = not c.is_lost-is_told.result };
      late = step.late;
      facts = step.facts;
    } in
    let late = is_late old.begin old.dates (history_of old.made old.time) c.args.call c.args.known c.args.moment in
    let new = stepped (not (g.F.Store.lost c.step_for_editor.new.self.folder)) old c.step_for_editor.new.self.folder (made_for late c.args.call) c.args.moment step.stamp step.ruling in
    let told = subst (λ (b : Book _). step.facts ≡ facts_of (is_info c.args.call.act) (saved_at b.begin b.dates (history_of b.made b.time) c.args.call.name) ((state_of b.begin b.made b.time).files c.args.call.name).contents) c.in-Ok.ensures.entry c.in-Ok.ensures.facts in
    subst (λ (b : Book _). MakesForEditor (sight_of old) (sight_of b) c.args.call c.args.known c.args.moment answer) (sym c.in-Ok.ensures.entry)
    (single_edits _ old c.step_for_editor.new.self.folder c.args.call c.args.known c.args.moment answer late refl (ap not (sym c.is_lost-is_told.ensures.lost)) refl c.len-place.ensures.count c.in-Ok.ensures.stamp c.len-place.ensures.lawful.timely c.in-Ok.ensures.room c.in-Ok.ensures.back c.in-Ok.ensures.late told c.in-Ok.ensures.moment)

pub returns-in-Ok-clause-frame : goal.returns-in-Ok-clause-frame
returns-in-Ok-clause-frame g c =
    let files = g.F.Store.files in
    let faults = g.F.Store.faults in
    let new = c.step_for_editor.new.self in
    let same = c.in-Ok.ensures.entry in
    single_frames c.args.self.now.shard new c.args.call.name (files new.start) (files new.folder) (faults new.start) (faults new.folder)
    (ap (λ (b : Book _). b.begin) same) (ap (λ (b : Book _). b.limits) same) (ap (λ (b : Book _). b.dates) same) (ap (λ (b : Book _). b.ticked) same) c.step_for_editor.ensures.lawful

pub returns-in-Err-clause-refused : goal.returns-in-Err-clause-refused
returns-in-Err-clause-refused g c =
    let old = c.args.self.now.shard in
    let told = c.refusal_of.ensures in
    subst (λ (b : Book _). Refuses (sight_of old) (sight_of b) c.args.call c.args.moment c.refusal_of.result) (sym c.in-Err.ensures.err)
    (single_refuses old c.step_for_editor.new.self.folder c.args.call c.args.moment c.refusal_of.result c.len-place.ensures.lawful.timely (λ full. c.in-Err.ensures.full (told.full.0 full)) (told.call ∙ c.in-Err.ensures.call) (λ light going. told.full.1 (c.in-Err.ensures.light light (false_from_ne_true (g.F.Store.lost old.folder) (λ lost. going (told.lost.1 (c.in-Err.ensures.lost.1 lost)))))))

pub returns-in-Err-clause-frame : goal.returns-in-Err-clause-frame
returns-in-Err-clause-frame g c =
    let files = g.F.Store.files in
    let faults = g.F.Store.faults in
    let new = c.step_for_editor.new.self in
    let same = c.in-Err.ensures.err in
    single_frames c.args.self.now.shard new c.args.call.name (files new.start) (files new.folder) (faults new.start) (faults new.folder)
    (ap (λ (b : Book _). b.begin) same) (ap (λ (b : Book _). b.limits) same) (ap (λ (b : Book _). b.dates) same) (ap (λ (b : Book _). b.ticked) same) c.step_for_editor.ensures.lawful

pub returns-in-Err-clause-lost : goal.returns-in-Err-clause-lost
returns-in-Err-clause-lost g c = λ lost.
    let is = c.refusal_of.ensures.lost.0 lost in
    subst (λ (b : Book _). g.F.Store.lost b.folder ≡ true) (sym (c.in-Err.ensures.still is)) (c.in-Err.ensures.lost.0 is)
