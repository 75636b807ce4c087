use Rattle.std.proofs.Common.{Ok, ◌∙◌, subst}
use Rattle.host_core.specs.Value.{Book, InMemory}
use Rattle.host_core.specs.Single.{sight_of, SeesItsOwn}
use Rattle.host_server.specs.Turns.{Answers}
use Rattle.host_server.specs.Answering.{Ruled}
use Rattle.host_server.specs.Calls.{Tells}
use Rattle.replay_cmd.specs.declared.faultless.FaultlessFolder.{FaultlessFolder}
use Rattle.replay_cmd.proofs.AskLemmas.{asked_ruled, exchanged}
use Rattle.replay_cmd.proofs.exchanging.answer_request.Goals as goal

pub returns-clause-asked : goal.returns-clause-asked
returns-clause-asked c =
    let new = c.answer.new.caller in
    let a = c.in_ok-answer.answer in
    let answers = subst (λ (b : Book (InMemory FaultlessFolder)). Answers c.args.desk.now c.args.request c.args.moment SeesItsOwn (sight_of b) (sight_of new.shard) (Ok a))
    c.begin.ensures.shard c.in_ok-answer.ensures.answers in
    λ ask body asks same.
    let tells : Tells (Ruled c.args.desk.now ask body c.args.moment) SeesItsOwn (sight_of c.args.host.now.shard) (sight_of new.shard) (Ok a) = (
      answers.0,
      answers.1,
      asked_ruled c.args.desk.now c.args.request ask body c.args.moment answers.0 a c.a_request_asks_for_one_thing.ensures
          c.a_refused_request_asks_for_nothing.ensures.nothing c.a_request_for_a_file_is_not_for_the_container.ensures asks same answers.2,
    ) in
    exchanged c.args.desk.now ask body c.args.moment c.args.host.now.shard new.start new.shard a
    (c.answer.ensures.basis ∙ c.begin.ensures.start) tells c.now-time.ensures.grown c.now-time.ensures.legal c.now-time.ensures.stored

pub returns-clause-answers : goal.returns-clause-answers
returns-clause-answers c =
    let new = c.answer.new.caller in
    subst (λ (b : Book (InMemory FaultlessFolder)). Answers c.args.desk.now c.args.request c.args.moment SeesItsOwn (sight_of b) (sight_of new.shard) (Ok c.in_ok-answer.answer))
    c.begin.ensures.shard c.in_ok-answer.ensures.answers
