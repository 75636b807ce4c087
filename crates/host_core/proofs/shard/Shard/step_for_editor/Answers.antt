use Rattle.std.proofs.Common.{◌≡◌, ◌≤◌, max, [], ◌∷◌, ◌++◌, List, ℕ, Bool, not, sym, subst}
use Rattle.outside.specs.Faults.{Rose}
use Rattle.host_core.specs.Entries.{history_of}
use Rattle.host_core.specs.Facts.{facts_of, is_info, is_late, made_for, saved_at}
use Rattle.host_core.specs.Value.{Book, IsLawful, state_of}
use Rattle.host_core.proofs.shard.Shard.step_for_editor.Goals as goal

pub returns-in-Ok-clause-entry : goal.returns-in-Ok-clause-entry
returns-in-Ok-clause-entry g c =
    let old = c.args.self.now in
    let call = made_for (is_late old.begin old.dates (history_of old.made old.time) c.args.call c.args.known c.args.moment) c.args.call in
    subst (λ (b : Book _). b ≡ record old { made = old.made ++ record { time = max old.time c.args.moment; step = record { stamp = c.in-Ok.step.0; pass = c.args.pass; moment = c.args.moment; call = call; ruling = c.make_for_editor.new.carried.ruling }; told = not (g.F.Store.lost b.folder) } ∷ []; time = max old.time c.args.moment; folder = b.folder }) (sym c.facts-facts.ensures.same) c.in-Ok.ensures.entry

pub returns-in-Ok-clause-facts : goal.returns-in-Ok-clause-facts
returns-in-Ok-clause-facts g c =
    let P : Bool → List ℕ → Book _ → Type 0 = λ digest name b. c.facts-facts.result ≡ facts_of digest (saved_at b.begin b.dates (history_of b.made b.time) name) ((state_of b.begin b.made b.time).files name).contents in
    subst (λ (b : Book _). P (is_info c.args.call.act) c.args.call.name b) (sym c.facts-facts.ensures.same)
    (subst (λ (name : List ℕ). P (is_info c.args.call.act) name c.make_for_editor.new.self) c.copy-name.ensures
    (subst (λ (digest : Bool). P digest c.copy-name.result c.make_for_editor.new.self) c.is_info-digest.ensures c.facts-facts.ensures.facts))

pub returns-in-Ok-clause-never_falls : goal.returns-in-Ok-clause-never_falls
returns-in-Ok-clause-never_falls g c =
    let faults = g.F.Store.faults in
    subst (λ (b : Book _). faults c.args.self.now.folder ≤ faults b.folder) (sym c.facts-facts.ensures.same) c.make_for_editor.ensures.never_falls

pub returns-in-Ok-clause-fault : goal.returns-in-Ok-clause-fault
returns-in-Ok-clause-fault g c =
    let faults = g.F.Store.faults in
    subst (λ (b : Book _). c.make_for_editor.new.carried.ruling.status ≡ 500 → Rose (faults c.args.self.now.folder) (faults b.folder)) (sym c.facts-facts.ensures.same) c.in-Ok.ensures.fault

pub returns-in-Ok-clause-lawful : goal.returns-in-Ok-clause-lawful
returns-in-Ok-clause-lawful g c =
    let files = g.F.Store.files in
    let faults = g.F.Store.faults in
    subst (λ (b : Book _). IsLawful b (files b.start) (files b.folder) (faults b.start) (faults b.folder)) (sym c.facts-facts.ensures.same) c.make_for_editor.ensures.lawful
