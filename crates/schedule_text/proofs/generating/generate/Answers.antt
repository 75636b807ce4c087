use Rattle.std.proofs.Common.{◌≡◌, sym, ap, ◌∙◌, subst}
use Rattle.schedule_text.specs.Schedules.{IsSchedule}
use Rattle.schedule_text.specs.Generator.{generated, events_drawn}
use Rattle.schedule_text.proofs.Generated.{generated_form}
use Rattle.schedule_text.proofs.generating.generate.Goals as goal

pub new-requires : goal.new-requires
new-requires c =
    let events = c.in_ok-events.ensures ∙ ap (λ n. events_drawn n 0 n c.args.seed 0) c.from.ensures in
    let same : generated c.args.seed c.args.count ≡ record { files = c.in_ok-files.files.items; sessions = c.in_ok-sessions.sessions.items; events = c.in_ok-events.events.items } =
    λ i. record { files = sym c.in_ok-files.ensures.files i; sessions = sym c.in_ok-sessions.ensures i; events = sym events i } in
    subst IsSchedule same (generated_form c.args.seed c.args.count c.requires c.in_ok-files.ensures.form)
