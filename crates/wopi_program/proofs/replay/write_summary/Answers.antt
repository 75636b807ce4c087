use Rattle.std.proofs.Common.{inr, refl}
use Rattle.wopi_program.proofs.ReplayLemmas.{told_of}
use Rattle.wopi_program.proofs.replay.write_summary.Goals as goal

pub returns-clause-replays : goal.returns-clause-replays
returns-clause-replays g c =
    let run = c.in-Ok.ensures in
    inr (told_of _ c.args.schedule.now c.in-Ok-summary_text.text c.as_slice.result.now c.say.result _ _ run.safe (c.in-Ok-summary_text.ensures c.args.schedule.now (run.runs refl))
    c.as_slice.ensures c.say.ensures.statuses c.say.ensures.done c.say.ensures.cut)
