-- What is read of the bytes of an answer is what they tell, and looks to a session like what was said.
use Rattle.std.proofs.Common.{◌≡◌, refl, ℕ, Bool, List, ◌++◌, subst, sym, ap, ◌∙◌}
use Rattle.wopi_http.specs.declared.message.Reply.{Reply}
use Rattle.wopi_http.specs.ReplyReads.{ReadsReply}
use Rattle.wopi_headers.specs.declared.answer.Answer.{Answer}
use Rattle.wopi_headers.specs.declared.ask.Op.{Op}
use Rattle.wopi_headers.specs.AnswerReads.{answer_of, told}
use Rattle.wopi_headers.specs.Replies.{reply_of}
use Rattle.wopi_http.specs.Replies.{reply_text}
use Rattle.wopi_client.specs.Asking.{TellsAnswer}
use Rattle.save_session.specs.declared.state.SessionOp.{SessionOp}
use Rattle.save_session.specs.declared.state.SessionOp.TheVariants as op_of
use Rattle.host_server.specs.Texts.{answer_text}
use Rattle.wopi_world.specs.Talks.{IsSameText, LooksSame}

pub read_as_said : (op : Op) (a got : Answer) (close : Bool) (more : List ℕ) → ReadsReply (reply_text (reply_of a close) ++ more) (reply_of a close) →
    ((bytes : List ℕ) (one other : Reply) → ReadsReply bytes one → ReadsReply bytes other → one ≡ other) → answer_of (reply_of a close) ≡ told a →
    TellsAnswer op (answer_text a close ++ more) got → got ≡ told a
unfolding answer_text
read_as_said op a got close more written one comes_back tells =
    let same : tells.reply ≡ reply_of a close = one (reply_text (reply_of a close) ++ more) tells.reply (reply_of a close) tells.reads written in
    tells.answer_is ∙ ap answer_of same ∙ comes_back

same_text : (asked : SessionOp) (a : Answer) → IsSameText asked (told a) a
same_text op_of.Info a = tt
same_text op_of.TakeLock a = tt
same_text op_of.Get a = (refl, refl)
same_text (op_of.Put number) a = refl
same_text (op_of.Relock number) a = tt
same_text (op_of.Refresh number) a = tt
same_text (op_of.Unlock number) a = tt

pub looks_told : (asked : SessionOp) (a got : Answer) → got ≡ told a → LooksSame asked got a
looks_told asked a got is =
    subst (λ (x : Answer). LooksSame asked x a) (sym is)
    (record { status = refl; lock = λ conflict. refl; reason = λ conflict. refl; text = λ ok. same_text asked a })
