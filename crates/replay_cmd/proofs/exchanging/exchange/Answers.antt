use Rattle.replay_cmd.proofs.Carryings.{answered, unanswered}
use Rattle.replay_cmd.proofs.exchanging.exchange.Goals as goal

pub returns-in-Ok-clause-went : goal.returns-in-Ok-clause-went
returns-in-Ok-clause-went g c =
    let went = rw c.in-Ok.is at c.in_ok-request.ensures.went in
    answered _ _ _ c.args.desk.now c.args.moment c.args.host.now.shard c.answer_request.new.host.shard c.in-Ok.request c.in_ok-answer-in-Ok.answer went c.in_ok-answer-in-Ok.ensures.answers c.in_ok-answer-in-Ok.ensures.asked

pub returns-in-Err-clause-went : goal.returns-in-Err-clause-went
returns-in-Err-clause-went g c =
    let went = rw c.in-Err.is at c.in_ok-request.ensures.went in
    unanswered _ _ _ c.args.desk.now c.args.moment c.args.host.now.shard c.in-Err.status c.refusal.result went c.refusal.ensures
