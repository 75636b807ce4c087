use Rattle.wopi_program.proofs.ReplayLemmas.{replays_not_3, traced_of}
use Rattle.wopi_program.proofs.replay.replay_input.Goals as goal

pub returns-in-Ok-clause-replays : goal.returns-in-Ok-clause-replays
returns-in-Ok-clause-replays g c =
    traced_of _ c.in-Ok.schedule c.write_trace.result _ _ c.in-Ok.ensures.read c.in-Ok.ensures.whole c.write_trace.ensures.replays

pub returns-in-Ok-clause-read_cause : goal.returns-in-Ok-clause-read_cause
returns-in-Ok-clause-read_cause g c = λ three.
    absurd (replays_not_3 g.K.Sink.held c.in-Ok.schedule c.write_trace.result _ _ c.write_trace.ensures.replays three)
