use Rattle.std.proofs.Common.{◌≡◌, refl, sym, ap, ◌∙◌, subst, List, ℕ}
use Rattle.std.proofs.lemmas.Result.{err_from_is_err_and}
use Rattle.access_tokens.specs.TokenText.{IsSigned}
use Rattle.host_server.specs.Answering.{RuledTo, asked_with}
use Rattle.host_server.specs.Editing.{token_taken}
use Rattle.host_server.specs.Known.{last_known}
use Rattle.host_server.proofs.DeedLemmas.{Does-nil}
use Rattle.host_server.proofs.TellLemmas.{dead_tells, call_tells, copy_tells, tells_nothing}
use Rattle.host_server.proofs.Keeping.{keeps_none}
use Rattle.host_server.proofs.answering.answer_ask.Goals as goal

pub returns-in_err-judged-clause-tells : goal.returns-in_err-judged-clause-tells
returns-in_err-judged-clause-tells g c =
    let sight = g.C.Caller.sight c.args.caller.now in
    let p = err_from_is_err_and c.from_residual.result c.from_residual.ensures.1 in
    rw p.1 (tells_nothing g.C.Caller.always sight sight
    (RuledTo c.args.editor (last_known c.args.editor c.args.fields.now) c.args.desk.now (asked_with c.args.editor c.args.fields.now c.args.ask.now) c.args.body c.args.moment) p.0 (Does-nil g.C.Caller.always sight))

pub returns-in_default-clause-tells : goal.returns-in_default-clause-tells
returns-in_default-clause-tells g c =
    let same : c.in_ok-judged.judged ≡ token_taken c.args.editor c.args.fields.now c.args.ask.now.token =
    c.in_ok-judged.ensures ∙ ap (token_taken c.args.editor c.args.fields.now) c.replace-text.ensures.value in
    dead_tells c.args.editor (last_known c.args.editor c.args.fields.now) c.args.desk.now (asked_with c.args.editor c.args.fields.now c.args.ask.now) c.args.body c.args.moment g.C.Caller.always (g.C.Caller.sight c.args.caller.now) _
    (λ token signed.
    let shown = subst (λ (t : List ℕ). IsSigned c.args.desk.now.keys t token) (sym same) signed in
    let read = (c.read.ensures.exact token).1 shown in absurd (cc)) c.status_only.ensures

pub returns-then-is_copy-clause-tells : goal.returns-then-is_copy-clause-tells
returns-then-is_copy-clause-tells g c =
    let same : c.in_ok-judged.judged ≡ token_taken c.args.editor c.args.fields.now c.args.ask.now.token =
    c.in_ok-judged.ensures ∙ ap (token_taken c.args.editor c.args.fields.now) c.replace-text.ensures.value in
    let told = c.copy_asked.ensures.tells in
    let signed = subst (λ (t : List ℕ). IsSigned c.args.desk.now.keys t c.in-Some.token) same ((c.in-Some.ensures.exact c.in-Some.token).0 refl) in
    copy_tells c.args.editor (last_known c.args.editor c.args.fields.now) c.args.desk.now (asked_with c.args.editor c.args.fields.now c.args.ask.now) c.args.body c.args.moment g.C.Caller.always c.in-Some.token told.0 signed told.1 c.args.body refl
    (g.C.Caller.sight c.args.caller.now) (g.C.Caller.sight c.copy_asked.new.caller) c.copy_asked.result told.2

pub returns-clause-tells : goal.returns-clause-tells
returns-clause-tells g c =
    let same : c.in_ok-judged.judged ≡ token_taken c.args.editor c.args.fields.now c.args.ask.now.token =
    c.in_ok-judged.ensures ∙ ap (token_taken c.args.editor c.args.fields.now) c.replace-text.ensures.value in
    let told = c.call_asked.ensures.tells in
    let signed = subst (λ (t : List ℕ). IsSigned c.args.desk.now.keys t c.in-Some.token) same ((c.in-Some.ensures.exact c.in-Some.token).0 refl) in
    call_tells c.args.editor (last_known c.args.editor c.args.fields.now) c.args.desk.now (asked_with c.args.editor c.args.fields.now c.args.ask.now) c.args.body c.args.moment g.C.Caller.always
    c.in-Some.token told.0 signed told.1 (g.C.Caller.sight c.args.caller.now) (g.C.Caller.sight c.call_asked.new.caller) c.call_asked.result told.2

-- a token that is read can be written
pub copy_asked-requires-clause-asking : goal.copy_asked-requires-clause-asking
copy_asked-requires-clause-asking g c = ((c.in-Some.ensures.exact c.in-Some.token).0 refl).3.form

pub returns-in_err-judged-clause-telling : goal.returns-in_err-judged-clause-telling
returns-in_err-judged-clause-telling g c = keeps_none g.C.Caller.loses (g.C.Caller.telling c.args.caller.now) (g.C.Caller.sight c.args.caller.now)

pub returns-in_default-clause-telling : goal.returns-in_default-clause-telling
returns-in_default-clause-telling g c = keeps_none g.C.Caller.loses (g.C.Caller.telling c.args.caller.now) (g.C.Caller.sight c.args.caller.now)
