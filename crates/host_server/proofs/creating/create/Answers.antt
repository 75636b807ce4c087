use Rattle.std.proofs.Common.{◌∙◌, inl, inr, arith}
use Rattle.host_server.specs.declared.creating.Attempt.TheVariants as attempt
use Rattle.host_server.specs.Copies.{create_as}
use Rattle.host_server.proofs.TryLemmas.{attempt_of, goes_on, decides, stops, gives_up}
use Rattle.host_server.proofs.Keeping.{keeps_both}
use Rattle.host_server.proofs.creating.create.Goals as goal

pub returns-then-number-tries-clause-creates : goal.returns-then-number-tries-clause-creates
returns-then-number-tries-clause-creates g c =
    let run = c.names in
    let (entry, of, ruled, taken, back, does) = attempt_of g.C.Caller.always _ _ _ _ c.args.overwrite run.contents c.args.moment c.args.name.now c.args.token.now c.args.contents run.number
    (c.copy.ensures ∙ c.in-Some.ensures.value) c.copy-in-names.ensures run.invariant.same (attempt.Taken c.in-Taken.ruling c.in-Taken.back) c.in-Taken.ensures.attempts in
    decides g.C.Caller.always _ _ _ (create_as c.args.name.now c.args.token.now c.args.overwrite c.args.contents) c.args.moment run.number run.invariant.going
    c.args.tries entry c.in-Some.copy c.in-Taken.ruling of (run.invariant.few, inr c.if-number-tries.true) c.in-Some.ensures.value ruled does

pub returns-in-Ruled-clause-creates : goal.returns-in-Ruled-clause-creates
returns-in-Ruled-clause-creates g c =
    let run = c.names in
    let (entry, of, ruled, untaken, does) = attempt_of g.C.Caller.always _ _ _ _ c.args.overwrite run.contents c.args.moment c.args.name.now c.args.token.now c.args.contents run.number
    (c.copy.ensures ∙ c.in-Some.ensures.value) c.copy-in-names.ensures run.invariant.same (attempt.Ruled c.in-Ruled.ruling) c.in-Ruled.ensures.attempts in
    decides g.C.Caller.always _ _ _ (create_as c.args.name.now c.args.token.now c.args.overwrite c.args.contents) c.args.moment run.number run.invariant.going
    c.args.tries entry c.in-Some.copy c.in-Ruled.ruling of (run.invariant.few, inl untaken) c.in-Some.ensures.value ruled does

pub returns-in-Full-clause-creates : goal.returns-in-Full-clause-creates
returns-in-Full-clause-creates g c =
    let run = c.names in
    let (full, does) = attempt_of g.C.Caller.always _ _ _ _ c.args.overwrite run.contents c.args.moment c.args.name.now c.args.token.now c.args.contents run.number
    (c.copy.ensures ∙ c.in-Some.ensures.value) c.copy-in-names.ensures run.invariant.same attempt.Full c.in-Full.ensures.attempts in
    stops g.C.Caller.always _ _ _ (create_as c.args.name.now c.args.token.now c.args.overwrite c.args.contents) c.args.moment run.number run.invariant.going
    c.args.tries run.invariant.few full does

pub returns-in-Memory-clause-creates : goal.returns-in-Memory-clause-creates
returns-in-Memory-clause-creates g c =
    let run = c.names in (
      run.number,
      run.invariant.few,
      gives_up g.C.Caller.always _ _ _ (create_as c.args.name.now c.args.token.now c.args.overwrite c.args.contents) c.args.moment run.number run.invariant.going
          c.in-Memory.ensures.attempts,
    )

pub names-preserved : goal.names-preserved
names-preserved g c =
    let run = c.names in
    let (entry, of, ruled, taken, back, does) = attempt_of g.C.Caller.always _ _ _ _ c.args.overwrite run.contents c.args.moment c.args.name.now c.args.token.now c.args.contents run.number
    (c.copy.ensures ∙ c.in-Some.ensures.value) c.copy-in-names.ensures run.invariant.same (attempt.Taken c.in-Taken.ruling c.in-Taken.back) c.in-Taken.ensures.attempts in
    record {
      going = goes_on g.C.Caller.always _ _ _ (create_as c.args.name.now c.args.token.now c.args.overwrite c.args.contents) c.args.moment run.number run.invariant.going
          entry c.in-Taken.ruling of ruled taken does;
      few = omega (arith, run.invariant.few, c.if-number-tries.false);
      same = back;
      telling = keeps_both g.C.Caller.loses (g.C.Caller.telling c.args.caller.now) (g.C.Caller.telling c.names.caller) (g.C.Caller.telling c.make_named.new.caller)
          (g.C.Caller.sight c.args.caller.now) (g.C.Caller.sight c.names.caller) (g.C.Caller.sight c.make_named.new.caller) c.names.invariant.telling c.make_named.ensures.telling;
      basis = c.make_named.ensures.basis ∙ run.invariant.basis;
      references = c.make_named.ensures.references ∙ run.invariant.references;
    }

pub returns-then-number-tries-clause-telling : goal.returns-then-number-tries-clause-telling
returns-then-number-tries-clause-telling g c =
    keeps_both g.C.Caller.loses (g.C.Caller.telling c.args.caller.now) (g.C.Caller.telling c.names.caller) (g.C.Caller.telling c.make_named.new.caller)
    (g.C.Caller.sight c.args.caller.now) (g.C.Caller.sight c.names.caller) (g.C.Caller.sight c.make_named.new.caller) c.names.invariant.telling c.make_named.ensures.telling

pub returns-in-Ruled-clause-telling : goal.returns-in-Ruled-clause-telling
returns-in-Ruled-clause-telling g c =
    keeps_both g.C.Caller.loses (g.C.Caller.telling c.args.caller.now) (g.C.Caller.telling c.names.caller) (g.C.Caller.telling c.make_named.new.caller)
    (g.C.Caller.sight c.args.caller.now) (g.C.Caller.sight c.names.caller) (g.C.Caller.sight c.make_named.new.caller) c.names.invariant.telling c.make_named.ensures.telling

pub returns-in-Full-clause-telling : goal.returns-in-Full-clause-telling
returns-in-Full-clause-telling g c =
    keeps_both g.C.Caller.loses (g.C.Caller.telling c.args.caller.now) (g.C.Caller.telling c.names.caller) (g.C.Caller.telling c.make_named.new.caller)
    (g.C.Caller.sight c.args.caller.now) (g.C.Caller.sight c.names.caller) (g.C.Caller.sight c.make_named.new.caller) c.names.invariant.telling c.make_named.ensures.telling

pub returns-in-Memory-clause-telling : goal.returns-in-Memory-clause-telling
returns-in-Memory-clause-telling g c =
    keeps_both g.C.Caller.loses (g.C.Caller.telling c.args.caller.now) (g.C.Caller.telling c.names.caller) (g.C.Caller.telling c.make_named.new.caller)
    (g.C.Caller.sight c.args.caller.now) (g.C.Caller.sight c.names.caller) (g.C.Caller.sight c.make_named.new.caller) c.names.invariant.telling c.make_named.ensures.telling
