-- From an answer to a reply, or to want of memory for one.
use Rattle.std.proofs.Common.{◌≡◌, ℕ, Bool, true, false, List, [], None, Some, Ok, Err, refl, sym, ap, subst, append-nil, inr}
use Rattle.std.specs.Prelude.{if◌then◌else◌}
use Rattle.wopi_text.specs.declared.faults.Memory.{Memory}
use Rattle.wopi_http.specs.declared.message.Request.{Request}
use Rattle.wopi_http.specs.declared.message.Reply.{Reply}
use Rattle.wopi_http.specs.Replies.{reply_text}
use Rattle.wopi_headers.specs.Replies.{reply_of}
use Rattle.wopi_headers.specs.declared.answer.Answer.{Answer}
use Rattle.host_server.specs.Texts.{answer_text, head_text, sent_text, shown, without_body}
use Rattle.host_core.specs.Caller.{Sight}
use Rattle.host_server.specs.declared.desk.Desk.{Desk}
use Rattle.host_server.specs.Answering.{AnsweredTo}
use Rattle.host_server.specs.Deeds.{Deed}
use Rattle.host_server.specs.Editing.{as_get, asks_head, asks_options, judged_as}
use Rattle.host_server.specs.Turns.{Said, answer, head, no_memory, said_text, IsSaid, AnswersTo}
use Rattle.host_server.specs.Steps.{Prepares}

-- what is said by an answer, by whether its body is left out
abbrev said_as : Bool → Answer → Said
said_as true a = head a
said_as false a = answer a

text_is : (left_out : Bool) (r : Reply) (a : Answer) (close : Bool) → r ≡ reply_of a close → sent_text (Some (shown left_out r)) close ≡ said_text (said_as left_out a) close
unfolding answer_text head_text
text_is true r a close is = ap (λ (x : Reply). reply_text (without_body x)) is
text_is false r a close is = ap reply_text is

module _ (desk : Desk) (always : Sight → Type 0) (q : Request) (moment : ℕ) (close : Bool) (sight sight' : Sight) where
  -- what a request is told that asks for no methods
  told_as : (left_out : Bool) → asks_head desk.editor q ≡ left_out → asks_options desk.editor q ≡ false → (part : List Deed) (a : Answer)
      → AnsweredTo desk.editor desk (if left_out then as_get q else q) moment part a → IsSaid desk q moment part (said_as left_out a)
  told_as true asks none part a is = (asks, is)
  told_as false asks none part a is = (none, asks, is)

  pub makes_reply : (a : Answer) (r : Reply) → asks_options desk.editor q ≡ false → AnswersTo desk.editor desk (judged_as desk.editor q) moment always sight sight' (Ok a)
      → r ≡ reply_of a close → Prepares desk always q moment close sight sight' (Some (shown (asks_head desk.editor q) r))
  makes_reply a r none (part, grew, is) same = record {
    part = part;
    said = said_as (asks_head desk.editor q) a;
    is_said = told_as (asks_head desk.editor q) refl none part a is;
    makes = grew;
    text = text_is (asks_head desk.editor q) r a close same;
  }

  pub makes_none : (a : Answer) → asks_options desk.editor q ≡ false → AnswersTo desk.editor desk (judged_as desk.editor q) moment always sight sight' (Ok a)
      → Prepares desk always q moment close sight sight' None
  makes_none a none (part, grew, is) = record {
    part = part;
    said = no_memory;
    is_said = (none, inr ([], a, subst (λ p. AnsweredTo desk.editor desk (judged_as desk.editor q) moment p a) (sym (append-nil part)) is));
    makes = grew;
    text = refl;
  }

  pub makes_nothing : (fault : Memory) → asks_options desk.editor q ≡ false → AnswersTo desk.editor desk (judged_as desk.editor q) moment always sight sight' (Err fault)
      → Prepares desk always q moment close sight sight' None
  makes_nothing fault none (part, grew, begun) = record { part = part; said = no_memory; is_said = (none, begun); makes = grew; text = refl }
