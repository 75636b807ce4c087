use Rattle.replay_cmd.proofs.Carryings.{handed, no_reply, no_request, no_sender, not_handed, reply_of_nobody, reply_unawaited, reply_unsent, took}
use Rattle.replay_cmd.specs.Carryings.{IsAwaited, IsSent}
use Rattle.std.proofs.Common.{refl, subst, sym}
use Rattle.std.proofs.lemmas.Option.{slice_get_within}
use Rattle.save_session.specs.declared.input.Input.{Input}
use Rattle.replay_cmd.specs.Members.{StepsIn}
use Rattle.wopi_world.specs.World.{Answer}
use Rattle.replay_cmd.proofs.EndedHosts.{with_hosts}
use Rattle.replay_cmd.proofs.Turning.{is_none, looked_up, not_found}
use Rattle.replay_cmd.proofs.Taken.{absent, late_foreign, late_request, late_member, late_waiting, took_answer}
use Rattle.replay_cmd.proofs.stage.Stage.answer.Goals as goal

pub returns-in_default-clause-follows : goal.returns-in_default-clause-follows
returns-in_default-clause-follows g c =
    let stage = c.args.self.now in
    λ straight setting world was space reached.
    let shows = was.shows in
    with_hosts setting stage _ world (Answer c.args.place) tt refl refl was (
    absent setting stage.desk stage.host.shard stage.history.items stage.requests.items stage.replies.items stage.members.items world shows c.args.place
    c.in_ok-absent.absent.items (not_found c.deref.result.now stage.replies.items c.args.place c.deref.ensures.value c.in_default.ensures) c.in_ok-absent.ensures
    )

pub returns-in_default-request-clause-follows : goal.returns-in_default-request-clause-follows
returns-in_default-request-clause-follows g c =
    let stage = c.args.self.now in
    let reply = c.in-Some.reply.now in
    λ straight setting world was space reached.
    let shows = was.shows in
    with_hosts setting stage _ world (Answer c.args.place) tt refl refl was (
    late_foreign setting stage.desk stage.host.shard stage.history.items stage.requests.items stage.replies.items stage.members.items world shows c.args.place
    reply (looked_up c.deref.result.now stage.replies.items c.args.place reply c.deref.ensures.value c.in-Some.ensures) c.in_ok-late.late.items (is_none reply.request c.in_default-request.not-Some) c.in_ok-late.ensures
    )

pub returns-in_default-request_at-clause-follows : goal.returns-in_default-request_at-clause-follows
returns-in_default-request_at-clause-follows g c =
    let stage = c.args.self.now in
    let reply = c.in-Some.reply.now in
    let asked = c.in-Some-request.asked in
    λ straight setting world was space reached.
    let shows = was.shows in
    with_hosts setting stage _ world (Answer c.args.place) tt refl refl was (
    late_request setting stage.desk stage.host.shard stage.history.items stage.requests.items stage.replies.items stage.members.items world shows c.args.place
    reply (looked_up c.deref.result.now stage.replies.items c.args.place reply c.deref.ensures.value c.in-Some.ensures) asked c.in-Some-request.is
    c.in_ok-late-2.late.items (not_found c.deref-2.result.now stage.requests.items asked c.deref-2.ensures.value c.in_default-request_at.ensures) c.in_ok-late-2.ensures
    )

pub returns-in_default-member_at-clause-follows : goal.returns-in_default-member_at-clause-follows
returns-in_default-member_at-clause-follows g c =
    let stage = c.args.self.now in
    let reply = c.in-Some.reply.now in
    let asked = c.in-Some-request.asked in
    let request = c.in-Some-request_at.request.now in
    λ straight setting world was space reached.
    let shows = was.shows in
    with_hosts setting stage _ world (Answer c.args.place) tt refl refl was (
    late_member setting stage.desk stage.host.shard stage.history.items stage.requests.items stage.replies.items stage.members.items world shows c.args.place
    reply (looked_up c.deref.result.now stage.replies.items c.args.place reply c.deref.ensures.value c.in-Some.ensures) asked c.in-Some-request.is
    request (looked_up c.deref-2.result.now stage.requests.items asked request c.deref-2.ensures.value c.in-Some-request_at.ensures)
    c.in_ok-late-3.late.items (not_found c.deref-3.result.now stage.members.items request.sender c.deref-3.ensures.value c.in_default-member_at.ensures) c.in_ok-late-3.ensures
    )

pub returns-then-not-waits_for-clause-follows : goal.returns-then-not-waits_for-clause-follows
returns-then-not-waits_for-clause-follows g c =
    let stage = c.args.self.now in
    let reply = c.in-Some.reply.now in
    let asked = c.in-Some-request.asked in
    let request = c.in-Some-request_at.request.now in
    let member = c.in-Some-member_at.member.now in
    λ straight setting world was space reached.
    let shows = was.shows in
    with_hosts setting stage _ world (Answer c.args.place) tt refl refl was (
    late_waiting setting stage.desk stage.host.shard stage.history.items stage.requests.items stage.replies.items stage.members.items world shows c.args.place
    reply (looked_up c.deref.result.now stage.replies.items c.args.place reply c.deref.ensures.value c.in-Some.ensures) asked c.in-Some-request.is
    request (looked_up c.deref-2.result.now stage.requests.items asked request c.deref-2.ensures.value c.in-Some-request_at.ensures)
    member (looked_up c.deref-3.result.now stage.members.items request.sender member c.deref-3.ensures.value c.in-Some-member_at.ensures) c.in_ok-late-4.late.items (sym c.if-not-waits_for.ensures) c.in_ok-late-4.ensures
    )

pub step_at-requires : goal.step_at-requires
step_at-requires g c =
    let stage = c.args.self.now in
    let request = c.in-Some-request_at.request.now in
    let member = c.in-Some-member_at.member.now in
    slice_get_within stage.members.items request.sender member
    (looked_up c.deref-3.result.now stage.members.items request.sender member c.deref-3.ensures.value c.in-Some-member_at.ensures)

pub returns-clause-follows : goal.returns-clause-follows
returns-clause-follows g c =
    let stage = c.args.self.now in
    let reply = c.in-Some.reply.now in
    let asked = c.in-Some-request.asked in
    let request = c.in-Some-request_at.request.now in
    let member = c.in-Some-member_at.member.now in
    let after = c.step_at.new in
    λ straight setting world was space reached.
    let shows = was.shows in
    with_hosts setting stage _ world (Answer c.args.place) tt refl refl was (
    took_answer setting stage.desk stage.host.shard stage.history.items stage.requests.items stage.replies.items stage.members.items world shows c.args.place
    reply (looked_up c.deref.result.now stage.replies.items c.args.place reply c.deref.ensures.value c.in-Some.ensures) asked c.in-Some-request.is
    request (looked_up c.deref-2.result.now stage.requests.items asked request c.deref-2.ensures.value c.in-Some-request_at.ensures)
    member (looked_up c.deref-3.result.now stage.members.items request.sender member c.deref-3.ensures.value c.in-Some-member_at.ensures)
    after.requests.items after.members.items c.in_ok-carry_answer.field-0 c.in_ok-words.words.items (sym c.if-not-waits_for.ensures) (c.in_ok-carry_answer.ensures.back straight)
    (subst (λ (given : Input). StepsIn stage.members.items after.members.items stage.requests.items after.requests.items request.sender given c.in_ok-words.words.items) c.input_of-given.ensures c.in_ok-words.ensures)
    )

pub returns-in_default-clause-carries : goal.returns-in_default-clause-carries
returns-in_default-clause-carries g c =
    let stage = c.args.self.now in
    not_handed (g.W.Wire.carried c.args.wire.now) stage c.args.place (no_reply stage c.args.place (not_found c.deref.result.now stage.replies.items c.args.place c.deref.ensures.value c.in_default.ensures))

pub returns-in_default-request-clause-carries : goal.returns-in_default-request-clause-carries
returns-in_default-request-clause-carries g c =
    let stage = c.args.self.now in
    let reply = c.in-Some.reply.now in
    not_handed (g.W.Wire.carried c.args.wire.now) stage c.args.place (reply_of_nobody stage c.args.place reply (looked_up c.deref.result.now stage.replies.items c.args.place reply c.deref.ensures.value c.in-Some.ensures) (is_none reply.request c.in_default-request.not-Some))

pub returns-in_default-request_at-clause-carries : goal.returns-in_default-request_at-clause-carries
returns-in_default-request_at-clause-carries g c =
    let stage = c.args.self.now in
    let reply = c.in-Some.reply.now in
    let asked = c.in-Some-request.asked in
    not_handed (g.W.Wire.carried c.args.wire.now) stage c.args.place (reply_unsent stage c.args.place reply asked (looked_up c.deref.result.now stage.replies.items c.args.place reply c.deref.ensures.value c.in-Some.ensures) c.in-Some-request.is
    (no_request stage asked (not_found c.deref-2.result.now stage.requests.items asked c.deref-2.ensures.value c.in_default-request_at.ensures)))

pub returns-in_default-member_at-clause-carries : goal.returns-in_default-member_at-clause-carries
returns-in_default-member_at-clause-carries g c =
    let stage = c.args.self.now in
    let reply = c.in-Some.reply.now in
    let asked = c.in-Some-request.asked in
    let request = c.in-Some-request_at.request.now in
    not_handed (g.W.Wire.carried c.args.wire.now) stage c.args.place (reply_unsent stage c.args.place reply asked (looked_up c.deref.result.now stage.replies.items c.args.place reply c.deref.ensures.value c.in-Some.ensures) c.in-Some-request.is
    (no_sender stage asked request (looked_up c.deref-2.result.now stage.requests.items asked request c.deref-2.ensures.value c.in-Some-request_at.ensures)
    (not_found c.deref-3.result.now stage.members.items request.sender c.deref-3.ensures.value c.in_default-member_at.ensures)))

pub returns-then-not-waits_for-clause-carries : goal.returns-then-not-waits_for-clause-carries
returns-then-not-waits_for-clause-carries g c =
    let stage = c.args.self.now in
    let reply = c.in-Some.reply.now in
    let asked = c.in-Some-request.asked in
    let request = c.in-Some-request_at.request.now in
    let member = c.in-Some-member_at.member.now in
    let sent : IsSent stage asked request member = record {
      request_is = looked_up c.deref-2.result.now stage.requests.items asked request c.deref-2.ensures.value c.in-Some-request_at.ensures;
      member_is = looked_up c.deref-3.result.now stage.members.items request.sender member c.deref-3.ensures.value c.in-Some-member_at.ensures;
    } in
    not_handed (g.W.Wire.carried c.args.wire.now) stage c.args.place (reply_unawaited stage c.args.place reply asked request member (looked_up c.deref.result.now stage.replies.items c.args.place reply c.deref.ensures.value c.in-Some.ensures) c.in-Some-request.is sent (sym c.if-not-waits_for.ensures))

pub returns-clause-carries : goal.returns-clause-carries
returns-clause-carries g c =
    let stage = c.args.self.now in
    let reply = c.in-Some.reply.now in
    let asked = c.in-Some-request.asked in
    let request = c.in-Some-request_at.request.now in
    let member = c.in-Some-member_at.member.now in
    let there = looked_up c.deref-3.result.now stage.members.items request.sender member c.deref-3.ensures.value c.in-Some-member_at.ensures in
    let sent : IsSent stage asked request member = record {
      request_is = looked_up c.deref-2.result.now stage.requests.items asked request c.deref-2.ensures.value c.in-Some-request_at.ensures;
      member_is = there;
    } in
    let awaited : IsAwaited stage c.args.place reply asked request member = record {
      reply_is = looked_up c.deref.result.now stage.replies.items c.args.place reply c.deref.ensures.value c.in-Some.ensures;
      asked_is = c.in-Some-request.is;
      sent = sent;
      waits = sym c.if-not-waits_for.ensures;
    } in
    handed _ _ stage _ c.args.place reply asked request member c.in_ok-carry_answer.field-0 awaited c.in_ok-carry_answer.ensures.went
    (took stage _ request.sender _ member c.in_ok-words.words.items there
    (subst (λ (given : Input). StepsIn stage.members.items c.step_at.new.members.items stage.requests.items c.step_at.new.requests.items request.sender given c.in_ok-words.words.items) c.input_of-given.ensures c.in_ok-words.ensures)
    refl)
