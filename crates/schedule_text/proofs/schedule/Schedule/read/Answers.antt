use Rattle.std.proofs.Common.{◌≡◌, [], Err, subst}
use Rattle.schedule_text.specs.declared.reading.ScheduleFault.{ScheduleFault}
use Rattle.schedule_text.specs.declared.reading.ScheduleFault.TheVariants.{BadLine}
use Rattle.schedule_text.specs.Pieces.{IsRead}
use Rattle.schedule_text.proofs.PieceLemmas.{read_bad, read_fault, read_good}
use Rattle.schedule_text.proofs.schedule.Schedule.read.Goals as goal

pub finish-requires : goal.finish-requires
finish-requires c = (c.args.text.now, c.in-Ok.ensures.taken [] c.new-pieces.ensures.come)

pub returns-in-Ok-clause-text : goal.returns-in-Ok-clause-text
returns-in-Ok-clause-text c =
    read_good c.args.text.now c.finish.result (c.finish.ensures c.args.text.now (c.in-Ok.ensures.taken [] c.new-pieces.ensures.come))

pub returns-in-Ok-clause-bad : goal.returns-in-Ok-clause-bad
returns-in-Ok-clause-bad c =
    read_bad c.args.text.now c.finish.result (c.finish.ensures c.args.text.now (c.in-Ok.ensures.taken [] c.new-pieces.ensures.come))

pub returns-in-Err-clause-bad : goal.returns-in-Err-clause-bad
returns-in-Err-clause-bad c = λ line e.
    let same : c.in-Err.fault ≡ BadLine line = cc e in
    subst (λ (fault : ScheduleFault). IsRead c.args.text.now (Err fault)) same
    (read_fault c.args.text.now c.in-Err.fault (c.in-Err.ensures.taken [] c.new-pieces.ensures.come))
