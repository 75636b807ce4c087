use Rattle.std.proofs.Common.{[], ap, ◌∙◌, arith}
use Rattle.containers.specs.Answers.{json_told}
use Rattle.containers.proofs.AnswerLemmas.{listed_at, refused_at, told_at}
use Rattle.containers.proofs.answering.container_answer.Goals as goal

pub returns-in_default-clause-answered : goal.returns-in_default-clause-answered
returns-in_default-clause-answered g c =
    refused_at g.L.Lister.shard_count c.args.keys.now c.args.base.now c.args.opened c.args.ask.now c.args.moment (g.L.Caller.sight c.args.lister.now)
    c.as_slice.result.now c.bare.result c.as_slice.ensures c.in_default.ensures.none c.bare.ensures

pub returns-in_ok-container_info-in-Info-clause-answered : goal.returns-in_ok-container_info-in-Info-clause-answered
returns-in_ok-container_info-in-Info-clause-answered g c =
    told_at g.L.Lister.shard_count c.args.keys.now c.args.base.now c.args.opened c.args.ask.now c.args.moment (g.L.Caller.sight c.args.lister.now)
    c.as_slice.result.now c.in-Some.token c.json_told.result c.as_slice.ensures c.in-Some.ensures.some c.in-Info.is
    (c.json_told.ensures ∙ ap json_told c.in_ok-container_info-in-Info.ensures.text)

pub returns-in-Children-clause-answered : goal.returns-in-Children-clause-answered
returns-in-Children-clause-answered g c =
    let some = g.met.L.Lister.homes c.args.lister.now [] in
    listed_at g.L.Lister.shard_count c.args.keys.now c.args.base.now c.args.opened c.args.ask.now c.args.moment (g.L.Caller.sight c.args.lister.now)
    (g.L.Caller.sight c.children_told.new.lister) c.as_slice.result.now c.as_slice-in-Children.result.now c.in-Some.token c.children_told.result
    c.as_slice.ensures c.as_slice-in-Children.ensures c.in-Some.ensures.some c.in-Children.is (omega (arith, some)) c.children_told.ensures.looks
    c.children_told.ensures.told
