use Rattle.std.proofs.Common.{◌≡◌, List, ℕ, [], true, sym, ap, subst, ◌∙◌}
use Rattle.std.specs.Prelude.{Some}
use Rattle.wopi_http.specs.Replies.{reply_text}
use Rattle.wopi_http.specs.ReplyReads.{ReadsReply}
use Rattle.wopi_headers.specs.declared.answer.Answer.{Answer}
use Rattle.wopi_headers.specs.Replies.{reply_of}
use Rattle.replay_cmd.specs.Sessions.{IsGivenBack}
use Rattle.replay_cmd.proofs.CarriedLemmas.{came_back, reads_whole, went_over}
use Rattle.replay_cmd.proofs.carrying.carry_answer.Goals as goal

pub returns-in_default-clause-back : goal.returns-in_default-clause-back
returns-in_default-clause-back g c = λ straight.
    let a = c.args.answer.now in
    let form = c.is_tellable.ensures c.if-not-is_tellable.false in
    let reply_is : c.in_ok-reply.reply ≡ reply_of a true = c.in_ok-reply.ensures ∙ ap (λ (b : Answer). reply_of b true) c.in_ok-copy_answer.ensures in
    let text_is : c.in_ok-came.came ≡ reply_text (reply_of a true) = c.in_ok-came.ensures.same straight ∙ c.in_ok-text.ensures ∙ ap reply_text reply_is in
    let reads = c.what_is_replied_is_read.ensures a true [] form.form form.phrase form.small in
    let none = rw c.in_default.is at c.in_ok-reply-2.ensures.none in
    none (reply_of a true) (reads_whole c.as_slice.result.now a reads (c.as_slice.ensures ∙ text_is))

pub returns-clause-back : goal.returns-clause-back
returns-clause-back g c = λ straight.
    let a = c.args.answer.now in
    let form = c.is_tellable.ensures c.if-not-is_tellable.false in
    let reply_is : c.in_ok-reply.reply ≡ reply_of a true = c.in_ok-reply.ensures ∙ ap (λ (b : Answer). reply_of b true) c.in_ok-copy_answer.ensures in
    let text_is : c.in_ok-came.came ≡ reply_text (reply_of a true) = c.in_ok-came.ensures.same straight ∙ c.in_ok-text.ensures ∙ ap reply_text reply_is in
    let reads = c.what_is_replied_is_read.ensures a true [] form.form form.phrase form.small in
    let came = rw c.in-Some.is at c.in_ok-reply-2.ensures.some in
    subst (λ (x : Answer). IsGivenBack a (Some x)) (sym c.answer_of.ensures)
    (came_back c.as_slice.result.now a c.in-Some.reply c.bytes_begin_with_one_reply.ensures.one (c.an_answer_comes_back.ensures a true form.form) reads (c.as_slice.ensures ∙ text_is) came)

pub returns-in_default-clause-went : goal.returns-in_default-clause-went
returns-in_default-clause-went g c =
    let a = c.args.answer.now in
    let reply_is : c.in_ok-reply.reply ≡ reply_of a true = c.in_ok-reply.ensures ∙ ap (λ (b : Answer). reply_of b true) c.in_ok-copy_answer.ensures in
    let is : c.in_ok-text.text ≡ reply_text (reply_of a true) = c.in_ok-text.ensures ∙ ap reply_text reply_is in
    let none = rw c.in_default.is at c.in_ok-reply-2.ensures.none in
    went_over _ _ c.in_ok-text.text _ c.in_ok-came.came _ is c.in_ok-came.ensures.told (λ reply reads. none reply (subst (λ (l : List ℕ). ReadsReply l reply) (sym c.as_slice.ensures) reads))

pub returns-clause-went : goal.returns-clause-went
returns-clause-went g c =
    let a = c.args.answer.now in
    let reply_is : c.in_ok-reply.reply ≡ reply_of a true = c.in_ok-reply.ensures ∙ ap (λ (b : Answer). reply_of b true) c.in_ok-copy_answer.ensures in
    let is : c.in_ok-text.text ≡ reply_text (reply_of a true) = c.in_ok-text.ensures ∙ ap reply_text reply_is in
    let reads = subst (λ (l : List ℕ). ReadsReply l c.in-Some.reply) c.as_slice.ensures (rw c.in-Some.is at c.in_ok-reply-2.ensures.some) in
    went_over _ _ c.in_ok-text.text _ c.in_ok-came.came _ is c.in_ok-came.ensures.told (c.in-Some.reply, reads, c.answer_of.ensures)
