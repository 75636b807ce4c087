use Rattle.std.proofs.Common.{◌≡◌, ◌≢◌, ◌<◌, ◌≤◌, ◌+◌, [], ◌∷◌, Ok, Err, length, drop, ◌∙◌, subst, rules, arith}
use Rattle.std.proofs.lemmas.List.{drop_all}
use Rattle.grid_editor.specs.declared.turns.Went.TheVariants.{On, Ended}
use Rattle.grid_editor.specs.Runs.{StaysAt}
use Rattle.grid_editor.proofs.TurnLemmas.{next_is, run_on, run_over, run_ends, stays-trans}
use Rattle.grid_editor.proofs.editor.Editor.run.Goals as goal

pub returns-in-Ok-Ended-clause-runs : goal.returns-in-Ok-Ended-clause-runs
returns-in-Ok-Ended-clause-runs g c =
    let i = c.commands.command-index in
    let script = c.args.script.now in
    let same = c.deref-command-items.ensures.value ∙ c.commands-2.ensures in
    let within : i < length c.deref-command-items.result.now = search rules in
    let next = next_is script c.deref-command-items.result.now i c.command-item.result same within c.command-item.is in
    run_ends _ _ _ _ _ _ _ _ _ c.args.self.now c.commands.self c.command.new.self script (drop i script) (drop (i + 1) script) c.command-item.result (Ok (Ended c.in-Ok-Ended.outcome))
    next (record { desktop = c.in-Ok-Ended.ensures.desktop; nonce = c.in-Ok-Ended.ensures.nonce }) (λ e. absurd (cc e)) c.commands.invariant.so_far (rw c.in-Ok-Ended.field-0-is at c.in-Ok-Ended.ensures.does)

pub returns-in-Err-clause-runs : goal.returns-in-Err-clause-runs
returns-in-Err-clause-runs g c =
    let i = c.commands.command-index in
    let script = c.args.script.now in
    let same = c.deref-command-items.ensures.value ∙ c.commands-2.ensures in
    let within : i < length c.deref-command-items.result.now = search rules in
    let next = next_is script c.deref-command-items.result.now i c.command-item.result same within c.command-item.is in
    run_ends _ _ _ _ _ _ _ _ _ c.args.self.now c.commands.self c.command.new.self script (drop i script) (drop (i + 1) script) c.command-item.result (Err c.in-Err.fault)
    next (record { desktop = c.in-Err.ensures.desktop; nonce = c.in-Err.ensures.nonce }) (λ e. absurd (cc e)) c.commands.invariant.so_far c.in-Err.ensures.does

pub commands-preserved : goal.commands-preserved
commands-preserved g c =
    let i = c.commands.command-index in
    let script = c.args.script.now in
    let same = c.deref-command-items.ensures.value ∙ c.commands-2.ensures in
    let within : i < length c.deref-command-items.result.now = search rules in
    let next = next_is script c.deref-command-items.result.now i c.command-item.result same within c.command-item.is in
    let before : g.D.Dialer.faults c.args.dialer.now ≤ g.D.Dialer.faults c.commands.dialer = c.commands.invariant.never_falls in
    let now : g.D.Dialer.faults c.commands.dialer ≤ g.D.Dialer.faults c.command.new.dialer = c.in-Ok-On.ensures.never_falls in
    let wrote : g.K.Sink.write_faults c.args.sink.now ≤ g.K.Sink.write_faults c.commands.sink = c.commands.invariant.writes_never_fall in
    let writes : g.K.Sink.write_faults c.commands.sink ≤ g.K.Sink.write_faults c.command.new.sink = c.in-Ok-On.ensures.writes_never_fall in
    let stays : StaysAt c.commands.self c.command.new.self = record { desktop = c.in-Ok-On.ensures.desktop; nonce = c.in-Ok-On.ensures.nonce } in
    record {
      stays = stays-trans c.args.self.now c.commands.self c.command.new.self c.commands.invariant.stays stays;
      never_falls = omega arith;
      writes_never_fall = omega arith;
      so_far = run_on _ _ _ _ _ _ _ _ _ c.args.self.now c.commands.self c.command.new.self script (drop i script) (drop (i + 1) script) c.command-item.result
          next stays c.commands.invariant.so_far (rw c.in-Ok-On.field-0-is at c.in-Ok-On.ensures.does);
    }

pub returns-clause-runs : goal.returns-clause-runs
returns-clause-runs g c =
    let i = c.commands.command-index in
    let script = c.args.script.now in
    let same = c.deref-command-items.ensures.value ∙ c.commands-2.ensures in
    let past : length c.deref-command-items.result.now ≤ i = search rules in
    let over : drop i script ≡ [] = drop_all i script (subst (λ l. length l ≤ i) same past) in
    run_over _ _ _ _ _ _ c.args.self.now c.commands.self script (drop i script) over c.commands.invariant.so_far
