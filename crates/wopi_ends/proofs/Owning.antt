-- What a host makes of a session's request.
use Rattle.std.proofs.Common.{◌≡◌, ◌≢◌, ◌⊎◌, ◌==◌, ◌&&◌, ℕ, Bool, true, false, if◌then◌else◌, length, List, [], ◌∷◌, ◌++◌, Option, Some, None, IsSome, unwrap_or, refl, sym, ap, subst, ◌∙◌, inl, inr, arith}
use Rattle.std.proofs.lemmas.Bool.{cond_both, eqb-true}
use Rattle.std.specs.Str.{bytes_eq}
use Rattle.wopi_model.specs.declared.token.Token.{Token}
use Rattle.wopi_model.specs.declared.calls.Act.{Act}
use Rattle.wopi_model.specs.declared.calls.Act.TheVariants as act
use Rattle.wopi_model.specs.declared.calls.Call.{Call}
use Rattle.wopi_model.specs.declared.calls.Ruling.{Ruling}
use Rattle.wopi_model.specs.Shard.{Entry}
use Rattle.wopi_http.specs.declared.message.Field.{Field}
use Rattle.wopi_http.specs.declared.message.Method.{Method}
use Rattle.wopi_http.specs.declared.message.Method.TheVariants as method
use Rattle.wopi_http.specs.declared.message.Request.{Request}
use Rattle.wopi_headers.specs.declared.answer.Answer.{Answer}
use Rattle.wopi_headers.specs.declared.ask.Ask.{Ask}
use Rattle.wopi_headers.specs.declared.ask.Op.TheVariants as op
use Rattle.wopi_headers.specs.declared.ask.Target.{Target}
use Rattle.wopi_headers.specs.Containers.{IsAtContainers}
use Rattle.wopi_headers.specs.Operations.{AsksFor, IsRefusal}
use Rattle.wopi_headers.specs.declared.row.Row.{Row}
use Rattle.wopi_headers.specs.Rows.{row_asked}
use Rattle.access_tokens.specs.TokenText.{IsSigned, period, signed_text, mac_of}
use Rattle.access_tokens.specs.declared.keys.Keys.{Keys}
use Rattle.wopi_acts.specs.Acts.{act_of}
use Rattle.wopi_acts.specs.Answers.{ruling_told, status_only}
use Rattle.save_session.specs.Session.{op_of}
use Rattle.wopi_client.specs.declared.desktop.Desktop.{Desktop}
use Rattle.host_server.specs.declared.desk.Desk.{Desk}
use Rattle.host_server.specs.Deeds.{Deed, EditorCall, IsFor, Made, MadeFor, Blocked, made}
use Rattle.host_server.specs.declared.knowing.LastSave.{LastSave}
use Rattle.host_server.specs.Known.{last_known, last_told, moment_known, suite_of}
use Rattle.host_core.specs.declared.facts.Facts.{Facts}
use Rattle.host_core.specs.Facts.{is_put, look_for, made_for}
use Rattle.wopi_headers.specs.declared.answer.BodyKind.{BodyKind}
use Rattle.wopi_headers.specs.declared.answer.BodyKind.TheVariants.{Json}
use Rattle.wopi_headers.specs.declared.known.Suite.{Suite}
use Rattle.wopi_headers.specs.Known.{changed_text}
use Rattle.save_session.specs.declared.state.SessionOp.{SessionOp}
use Rattle.wopi_text.specs.declared.reason.Reason.TheVariants.{Changed}
use Rattle.host_server.specs.Answering.{RuledTo, AnsweredTo, asked_with, unauthorized, ruled, ruled_for, full, copied, refused, asked, contained}
use Rattle.host_server.specs.Editing.{Last, last_of, as_get, asks_head, asks_options, bearer_in, is_head, is_options, joined, judged_as, token_taken}
use Rattle.host_server.specs.Answering as host
use Rattle.host_server.specs.Telling.{is_info, info_told_to, late_told, told, told_by, told_for, told_of, save_told}
use Rattle.host_server.specs.Turns.{Turn, Said, answer, head, options, no_memory, IsSaid}
use Rattle.wopi_world.specs.Requests.{Client, Sent, Info, TakeLock, Get, Put, Relock, RefreshLock, Unlock, operation, body, act_sent, call_of, look_of}
use Rattle.wopi_world.specs.Talks.{LooksSame, changed_by}
use Rattle.wopi_world.proofs.Seeing.{looks_itself}
use Rattle.wopi_ends.specs.Messages.{IsAt, ask_of, TellsNone, TellsRuling, SaysWhen, IsOwnTurn, unmade, makes, looked}

-- no token has an empty text

no_text : (front rest : List ℕ) (byte : ℕ) → [] ≡ front ++ byte ∷ rest → ⊥
no_text [] rest byte e = cc e
no_text (b ∷ front) rest byte e = cc e

nothing_signed : (keys : Keys) (token : Token) → IsSigned keys [] token → ⊥
nothing_signed keys token signed =
    no_text (signed_text signed.0 token) (mac_of signed.1 (signed_text signed.0 token)) period signed.3.fields

-- the token that a request is judged by is its query's or none, where its query has one

empty_is : (text : List ℕ) → (length text == 0) ≡ true → text ≡ []
empty_is [] e = refl
empty_is (b ∷ text) e = let none = eqb-true (length (b ∷ text)) 0 e in absurd (omega (arith, none))

joined_right : (text : List ℕ) (borne : Option (List ℕ)) → (text ≡ [] → ⊥) → (joined text borne ≡ text) ⊎ (joined text borne ≡ [])
joined_right text None some = inl refl
joined_right text (Some borne) some = by_tests (length text == 0) refl (bytes_eq text borne)
  where
    by_tests : (none : Bool) → (length text == 0) ≡ none → (same : Bool)
        → ((if none then borne else if same then text else []) ≡ text) ⊎ ((if none then borne else if same then text else []) ≡ [])
    by_tests true e same = absurd (some (empty_is text e))
    by_tests false e true = inl refl
    by_tests false e false = inr refl

taken_right : (editor : Bool) (fields : List Field) (text : List ℕ) → (text ≡ [] → ⊥) → (token_taken editor fields text ≡ text) ⊎ (token_taken editor fields text ≡ [])
taken_right false fields text some = inl refl
taken_right true fields text some = joined_right text (bearer_in fields) some

-- a request that asks for an operation is no HEAD, and asks for no methods

both_false : (a b : Bool) → b ≡ false → (a && b) ≡ false
both_false true b e = e
both_false false b e = refl

is_no_head : (m : Method) (contents : Bool) (fields : List Field) (row : Row) → row_asked m contents fields ≡ Some row → is_head m ≡ false
unfolding row_asked
is_no_head method.Get contents fields row e = refl
is_no_head method.Post contents fields row e = refl
is_no_head method.Head contents fields row e = absurd (cc e)
is_no_head method.Options contents fields row e = refl
is_no_head method.Other contents fields row e = refl

is_no_options : (m : Method) (contents : Bool) (fields : List Field) (row : Row) → row_asked m contents fields ≡ Some row → is_options m ≡ false
unfolding row_asked
is_no_options method.Get contents fields row e = refl
is_no_options method.Post contents fields row e = refl
is_no_options method.Head contents fields row e = refl
is_no_options method.Options contents fields row e = absurd (cc e)
is_no_options method.Other contents fields row e = refl

no_head : (editor : Bool) (q : Request) (a : Ask) → AsksFor q a → asks_head editor q ≡ false
no_head editor q a asks = both_false editor (is_head q.method) (is_no_head q.method asks.contents q.fields asks.row asks.row_is)

no_options : (editor : Bool) (q : Request) (a : Ask) → AsksFor q a → asks_options editor q ≡ false
no_options editor q a asks = both_false editor (is_options q.method) (is_no_options q.method asks.contents q.fields asks.row asks.row_is)

judged_itself : (editor : Bool) (q : Request) (a : Ask) → AsksFor q a → judged_as editor q ≡ q
judged_itself editor q a asks = ap (λ left_out. if left_out then as_get q else q) (no_head editor q a asks)

never_both : (b : Bool) → b ≡ true → b ≡ false → ⊥
never_both b holds lacks = let e : true ≡ false = sym holds ∙ lacks in absurd (cc e)

-- what is told of CheckFileInfo's ruling, and of a save's

module _ (P : Answer → Type 0) (ruling : Ruling) (itself : P (ruling_told ruling)) where
  info_keeps : ((k : BodyKind) (b : List ℕ) → P (record (ruling_told ruling) { version = None; kind = k; body = b }))
      → (editor : Bool) (origin : Option (List ℕ)) (last : Option Last) (name : List ℕ) (token : Token) → P (info_told_to editor origin last name token ruling)
  info_keeps f editor origin last name token = cond_both (ruling.status == 200) _ (ruling_told ruling) P (λ e. f _ _) (λ e. itself)

  save_keeps : ((k : BodyKind) (b : List ℕ) → P (record (ruling_told ruling) { kind = k; body = b })) → (facts : Option Facts) → P (save_told facts ruling)
  save_keeps f None = itself
  save_keeps f (Some facts) = cond_both (ruling.status == 200) _ (ruling_told ruling) P (λ e. f _ _) (λ e. itself)

-- a session sees in the answer what the ruling tells
sees_info : (client : Client) (ruling : Ruling) (editor : Bool) (origin : Option (List ℕ)) (last : Option Last) (name : List ℕ) (token : Token)
    → LooksSame (operation Info) (info_told_to editor origin last name token ruling) (ruling_told ruling)
sees_info client ruling =
    info_keeps (λ a. LooksSame (operation Info) a (ruling_told ruling)) ruling (looks_itself (operation Info) (ruling_told ruling))
    (λ k b. record { status = refl; lock = λ conflict. refl; reason = λ conflict. refl; text = λ ok. tt })

sees_save : (number : ℕ) (contents : List ℕ) (ruling : Ruling) (facts : Option Facts)
    → LooksSame (operation (Put number contents)) (save_told facts ruling) (ruling_told ruling)
sees_save number contents ruling =
    save_keeps (λ a. LooksSame (operation (Put number contents)) a (ruling_told ruling)) ruling (looks_itself (operation (Put number contents)) (ruling_told ruling))
    (λ k b. record { status = refl; lock = λ conflict. refl; reason = λ conflict. refl; text = λ ok. refl })

sees : (client : Client) (sent : Sent) (ruling : Ruling) → LooksSame (operation sent) (told_of (call_of client sent) ruling) (ruling_told ruling)
sees client Info ruling = sees_info client ruling false None None client.token.file client.token
sees client TakeLock ruling = looks_itself (operation TakeLock) (ruling_told ruling)
sees client Get ruling = looks_itself (operation Get) (ruling_told ruling)
sees client (Put number contents) ruling = looks_itself (operation (Put number contents)) (ruling_told ruling)
sees client (Relock number) ruling = looks_itself (operation (Relock number)) (ruling_told ruling)
sees client (RefreshLock number) ruling = looks_itself (operation (RefreshLock number)) (ruling_told ruling)
sees client (Unlock number) ruling = looks_itself (operation (Unlock number)) (ruling_told ruling)

-- so it does on a host that serves editors, where its call came in time
abbrev told_in_time : Option (List ℕ) → Suite → Call → Option Facts → Ruling → Answer
told_in_time origin suite call facts ruling = told_by origin suite false (is_info call.act) (is_put call.act) call.name call.token facts ruling

sees_in_time : (origin : Option (List ℕ)) (suite : Suite) (client : Client) (sent : Sent) (facts : Option Facts) (ruling : Ruling)
    → LooksSame (operation sent) (told_in_time origin suite (call_of client sent) facts ruling) (ruling_told ruling)
sees_in_time origin suite client Info facts ruling = sees_info client ruling true origin (last_of facts) client.token.file client.token
sees_in_time origin suite client TakeLock facts ruling = looks_itself (operation TakeLock) (ruling_told ruling)
sees_in_time origin suite client Get facts ruling = looks_itself (operation Get) (ruling_told ruling)
sees_in_time origin suite client (Put number contents) facts ruling = sees_save number contents ruling facts
sees_in_time origin suite client (Relock number) facts ruling = looks_itself (operation (Relock number)) (ruling_told ruling)
sees_in_time origin suite client (RefreshLock number) facts ruling = looks_itself (operation (RefreshLock number)) (ruling_told ruling)
sees_in_time origin suite client (Unlock number) facts ruling = looks_itself (operation (Unlock number)) (ruling_told ruling)

-- where it came too late, its look at the lock tells what was changed
late_by : (by : SessionOp) (suite : Suite) (ruling : Ruling) (accepted : Bool)
    → LooksSame by (if accepted then record (status_only 409) { lock = ruling.lock; reason = Some Changed; kind = Json; body = changed_text suite } else ruling_told ruling)
    (ruling_told (if accepted then record ruling { status = 409; reason = Some Changed } else ruling))
late_by by suite ruling true =
    record { status = refl; lock = λ conflict. refl; reason = λ conflict. refl; text = λ ok. let no : 409 ≡ 200 = ok in absurd (omega (arith, no)) }
late_by by suite ruling false = looks_itself by (ruling_told ruling)

sees_late : (by : SessionOp) (suite : Suite) (ruling : Ruling) → LooksSame by (late_told suite ruling) (ruling_told (changed_by ruling))
sees_late by suite ruling = late_by by suite ruling (ruling.status == 200)

-- a request that knows of a save says when that was
says_when : (editor : Bool) (fields : List Field) → IsSome (moment_known (last_known editor fields)) → SaysWhen fields
says_when editor fields knows unsaid =
    by_editor editor (subst (λ (known : Option (Option (Suite × List ℕ))). IsSome (moment_known (if editor then last_told known else None))) unsaid knows)
  where
    by_editor : (serves : Bool) → IsSome (moment_known (if serves then last_told (Some None) else None)) → ⊥
    by_editor true none = let no : false ≡ true = none in absurd (cc no)
    by_editor false none = let no : false ≡ true = none in absurd (cc no)

put_sent : (nonce : List ℕ) (sent : Sent) → is_put (act_sent nonce sent) ≡ true → (number : ℕ) × (contents : List ℕ) × (sent ≡ Put number contents)
put_sent nonce Info e = absurd (cc e)
put_sent nonce TakeLock e = absurd (cc e)
put_sent nonce Get e = absurd (cc e)
put_sent nonce (Put number contents) e = (number, contents, refl)
put_sent nonce (Relock number) e = absurd (cc e)
put_sent nonce (RefreshLock number) e = absurd (cc e)
put_sent nonce (Unlock number) e = absurd (cc e)

no_copy : (nonce : List ℕ) (sent : Sent) (target : Target) → op_of nonce (operation sent) ≡ op.PutRelative target → ⊥
no_copy nonce Info target e = cc
no_copy nonce TakeLock target e = cc
no_copy nonce Get target e = cc
no_copy nonce (Put number contents) target e = cc
no_copy nonce (Relock number) target e = cc
no_copy nonce (RefreshLock number) target e = cc
no_copy nonce (Unlock number) target e = cc

-- What was done for the request, which may know of a save, and the answer.
data Did (client : Client) (sent : Sent) (knows : Type 0) (moment : ℕ) : List Deed → Answer → Type 0 where
  nothing : (a : Answer) → a.status ≢ 200 → a.status ≢ 409 → Did client sent knows moment [] a
  blocked : (call : Call) (m : ℕ) (before later : Rattle.host_core.specs.Caller.Sight) (a : Answer) → a.status ≢ 200 → a.status ≢ 409 → Did client sent knows moment (Blocked call m before later ∷ []) a
  entered : (entry : Entry) (a : Answer) → entry.call ≡ call_of client sent → entry.moment ≡ moment → LooksSame (operation sent) a (ruling_told entry.ruling) →
      Did client sent knows moment (Made entry ∷ []) a
  entered_for : (one : EditorCall) (a : Answer) → one.entry.call ≡ call_of client sent → one.entry.moment ≡ moment → LooksSame (operation sent) a (ruling_told one.entry.ruling) →
      Did client sent knows moment (MadeFor one ∷ []) a
  looked_for : (one : EditorCall) (number : ℕ) (contents : List ℕ) (a : Answer) → sent ≡ Put number contents → knows → one.entry.call ≡ look_of client → one.entry.moment ≡ moment →
      LooksSame (operation sent) a (ruling_told (changed_by one.entry.ruling)) → Did client sent knows moment (MadeFor one ∷ []) a

fault_ok : (status : ℕ) → status ≡ 500 → status ≢ 200
fault_ok status is e = omega (arith, is, e)

fault_conflict : (status : ℕ) → status ≡ 500 → status ≢ 409
fault_conflict status is e = omega (arith, is, e)

module _ (desk : Desk) (desktop : Desktop) (client : Client) (sent : Sent) (at : IsAt desk.keys desktop client)
    (one_token : (token other : Token) → IsSigned desk.keys desktop.token token → IsSigned desk.keys desktop.token other → token ≡ other) where
  abbrev own_ask : Ask
  own_ask = ask_of desktop client sent

  -- the one act of the ask is the session's
  own_act : (contents : List ℕ) (a : Act) → contents ≡ body sent → act_of own_ask.op contents ≡ Some a → act_sent client.nonce sent ≡ a
  own_act contents a is e =
      ap (λ (o : Option Act). unwrap_or o act.Look) (ap (act_of own_ask.op) (sym is) ∙ e)

  own_call : (contents : List ℕ) (token : Token) (a : Act) → contents ≡ body sent → IsSigned desk.keys desktop.token token → act_of own_ask.op contents ≡ Some a →
      host.call_of own_ask token a ≡ call_of client sent
  own_call contents token a is signed e =
      let tokens : token ≡ client.token = one_token token client.token signed at.token in
      let acts = own_act contents a is e in
      let files : desktop.file ≡ client.token.file = at.file in
      λ i. record { name = files i; token = tokens i; act = sym acts i }

  -- a text by which a request of the session may be judged: its own, or none where a field bears another
  abbrev IsJudgedBy : List ℕ → Type 0
  IsJudgedBy text = (text ≡ desktop.token) ⊎ (text ≡ [])

  own_signed : (text : List ℕ) → IsJudgedBy text → (token : Token) → IsSigned desk.keys text token → IsSigned desk.keys desktop.token token
  own_signed text right token signed = elim right [
    | inl same ↦ subst (λ (t : List ℕ). IsSigned desk.keys t token) same signed
    | inr none ↦ absurd (nothing_signed desk.keys token (subst (λ (t : List ℕ). IsSigned desk.keys t token) none signed))
  ]

  -- the request knows of that save
  abbrev Knows : Option LastSave → Type 0
  Knows last = IsSome (moment_known last)

  by_call : (last : Option LastSave) (token : Token) (wanted : Act) (contents : List ℕ) (moment : ℕ) (one : EditorCall) (late : Bool) → one.late ≡ late → contents ≡ body sent →
      IsSigned desk.keys desktop.token token → act_of own_ask.op contents ≡ Some wanted → IsFor (host.call_of own_ask token wanted) (moment_known last) moment one →
      Did client sent (Knows last) moment (MadeFor one ∷ []) (told_for desk.origin (suite_of last) one)
  by_call last token wanted contents moment one false in_time is signed e of =
      let ruling = one.entry.ruling in
      let suite = suite_of last in
      let own : host.call_of own_ask token wanted ≡ call_of client sent = own_call contents token wanted is signed e in
      let call : one.entry.call ≡ call_of client sent = of.made ∙ ap (λ (b : Bool). made_for b (host.call_of own_ask token wanted)) in_time ∙ own in
      let looks = subst (λ (c : Call). LooksSame (operation sent) (told_in_time desk.origin suite c one.facts ruling) (ruling_told ruling)) (sym (of.call_is ∙ own))
      (sees_in_time desk.origin suite client sent one.facts ruling) in
      entered_for one (told_for desk.origin suite one) call of.moment_is
      (subst (λ (b : Bool). LooksSame (operation sent)
      (told_by desk.origin suite b (is_info one.call.act) (is_put one.call.act) one.call.name one.call.token one.facts ruling) (ruling_told ruling)) (sym in_time) looks)
  by_call last token wanted contents moment one true late is signed e of =
      let ruling = one.entry.ruling in
      let suite = suite_of last in
      let own : host.call_of own_ask token wanted ≡ call_of client sent = own_call contents token wanted is signed e in
      let saves = of.of_saves late in
      let put = put_sent client.nonce sent (ap is_put (own_act contents wanted is e) ∙ saves.0) in
      let call : one.entry.call ≡ look_of client = of.made ∙ ap (λ (b : Bool). made_for b (host.call_of own_ask token wanted)) late ∙ ap look_for own in
      looked_for one put.0 put.1 (told_for desk.origin suite one) put.2 saves.1 call of.moment_is
      (subst (λ (b : Bool). LooksSame (operation sent)
      (told_by desk.origin suite b (is_info one.call.act) (is_put one.call.act) one.call.name one.call.token one.facts ruling) (ruling_told (changed_by ruling))) (sym late)
      (sees_late (operation sent) suite ruling))

  by_ruled : (last : Option LastSave) (text contents : List ℕ) (moment : ℕ) (deeds : List Deed) (a : Answer) → IsJudgedBy text → contents ≡ body sent →
      RuledTo desk.editor last desk (record own_ask { token = text }) contents moment deeds a → Did client sent (Knows last) moment deeds a
  by_ruled last text contents moment deeds a right is (unauthorized unsigned none told_is) =
      let status : a.status ≡ 401 = ap (λ (x : Answer). x.status) told_is in
      subst (λ (d : List Deed). Did client sent (Knows last) moment d a) (sym none) (nothing a (λ e. omega (arith, status, e)) (λ e. omega (arith, status, e)))
  by_ruled last text contents moment deeds a right is (ruled token wanted entry plain signed e of one told_is) =
      let call : entry.call ≡ call_of client sent = of.0 ∙ own_call contents token wanted is (own_signed text right token signed) e in
      let looks : LooksSame (operation sent) (told entry) (ruling_told entry.ruling) =
      subst (λ (c : Call). LooksSame (operation sent) (told_of c entry.ruling) (ruling_told entry.ruling)) (sym call) (sees client sent entry.ruling) in
      subst (λ (d : List Deed). Did client sent (Knows last) moment d a) (sym one)
      (entered entry a call of.1 (subst (λ (x : Answer). LooksSame (operation sent) x (ruling_told entry.ruling)) (sym told_is) looks))
  by_ruled last text contents moment deeds a right is (ruled_for token wanted made_one editors signed e of one told_is) =
      subst (λ (d : List Deed). Did client sent (Knows last) moment d a) (sym one)
      (subst (λ (x : Answer). Did client sent (Knows last) moment (MadeFor made_one ∷ []) x) (sym told_is)
      (by_call last token wanted contents moment made_one made_one.late refl is (own_signed text right token signed) e of))
  by_ruled last text contents moment deeds a right is (full token wanted before later signed e is_full one told_is) =
      let status : a.status ≡ 500 = ap (λ (x : Answer). x.status) told_is in
      subst (λ (d : List Deed). Did client sent (Knows last) moment d a) (sym one)
      (blocked (host.call_of own_ask token wanted) moment before later a (fault_ok a.status status) (fault_conflict a.status status))
  by_ruled last text contents moment deeds a right is (copied token target signed e copies) = absurd (no_copy client.nonce sent target e)

  own_judged : (fields : List Field) → IsJudgedBy (token_taken desk.editor fields desktop.token)
  own_judged fields =
      taken_right desk.editor fields desktop.token
      (λ none. nothing_signed desk.keys client.token (subst (λ (t : List ℕ). IsSigned desk.keys t client.token) none at.token))

  abbrev KnowsIn : List Field → Type 0
  KnowsIn fields = Knows (last_known desk.editor fields)

  by_answered : (q : Request) (moment : ℕ) (deeds : List Deed) (a : Answer) → AsksFor q own_ask → q.body ≡ body sent →
      ((other : Ask) → AsksFor q other → other ≡ own_ask) → ((s : ℕ) → IsRefusal q s → ⊥) → (IsAtContainers q → ⊥) →
      AnsweredTo desk.editor desk q moment deeds a → Did client sent (KnowsIn q.fields) moment deeds a
  by_answered q moment deeds a asks is one never away (refused s (inl at) none told_is) = absurd (away at.0)
  by_answered q moment deeds a asks is one never away (refused s (inr refusal) none told_is) = absurd (never s refusal.1)
  by_answered q moment deeds a asks is one never away (contained other at asks_other rules) = absurd (away at)
  by_answered q moment deeds a asks is one never away (asked other asks_other rules) =
      by_ruled (last_known desk.editor q.fields) (token_taken desk.editor q.fields desktop.token) q.body moment deeds a (own_judged q.fields) is
      (subst (λ (x : Ask). RuledTo desk.editor (last_known desk.editor q.fields) desk (asked_with desk.editor q.fields x) q.body moment deeds a) (one other asks_other) rules)

  by_did : (t : Turn) (deeds : List Deed) (a : Answer) → Did client sent (KnowsIn t.request.fields) t.moment deeds a → t.part ≡ deeds → t.said ≡ answer a → IsOwnTurn client sent t
  by_did t deeds a (nothing _ ok conflict) part said = unmade (ap made part) (subst TellsNone (sym said) (ok, conflict))
  by_did t deeds a (blocked call m before later _ ok conflict) part said = unmade (ap made part) (subst TellsNone (sym said) (ok, conflict))
  by_did t deeds a (entered_for one _ call moment looks) part said = makes one.entry (ap made part) call moment (subst (TellsRuling sent one.entry.ruling) (sym said) looks)
  by_did t deeds a (entered entry _ call moment looks) part said = makes entry (ap made part) call moment (subst (TellsRuling sent entry.ruling) (sym said) looks)
  by_did t deeds a (looked_for one number contents _ put knows call moment looks) part said =
      looked number contents one.entry put (says_when desk.editor t.request.fields knows) (ap made part) call moment (subst (TellsRuling sent (changed_by one.entry.ruling)) (sym said) looks)

  one_of : (part others : List Deed) (deed : Deed) → part ++ others ≡ deed ∷ [] → (part ≡ []) ⊎ (part ≡ deed ∷ [])
  one_of [] others deed e = inl refl
  one_of (first ∷ []) others deed e = let same : first ≡ deed = cc in inr (ap (λ (d : Deed). d ∷ []) same)
  one_of (first ∷ (second ∷ part)) others deed e = cc

  none_of : (part others : List Deed) → part ++ others ≡ [] → part ≡ []
  none_of [] others e = refl
  none_of (first ∷ part) others e = cc

  by_begun : (t : Turn) (others deeds : List Deed) (a : Answer) → Did client sent (KnowsIn t.request.fields) t.moment deeds a → t.part ++ others ≡ deeds → t.said ≡ no_memory → IsOwnTurn client sent t
  by_begun t others deeds a (nothing _ ok conflict) part said = unmade (ap made (none_of t.part others part)) (subst TellsNone (sym said) tt)
  by_begun t others deeds a (blocked call m before later _ ok conflict) part said = elim (one_of t.part others (Blocked call m before later) part) [
    | inl none ↦ unmade (ap made none) (subst TellsNone (sym said) tt)
    | inr one ↦ unmade (ap made one) (subst TellsNone (sym said) tt)
  ]
  by_begun t others deeds a (entered_for one _ call moment looks) part said = elim (one_of t.part others (MadeFor one) part) [
    | inl none ↦ unmade (ap made none) (subst TellsNone (sym said) tt)
    | inr this ↦ makes one.entry (ap made this) call moment (subst (TellsRuling sent one.entry.ruling) (sym said) tt)
  ]
  by_begun t others deeds a (entered entry _ call moment looks) part said = elim (one_of t.part others (Made entry) part) [
    | inl none ↦ unmade (ap made none) (subst TellsNone (sym said) tt)
    | inr one ↦ makes entry (ap made one) call moment (subst (TellsRuling sent entry.ruling) (sym said) tt)
  ]
  by_begun t others deeds a (looked_for one number contents _ put knows call moment looks) part said = elim (one_of t.part others (MadeFor one) part) [
    | inl none ↦ unmade (ap made none) (subst TellsNone (sym said) tt)
    | inr this ↦
        looked number contents one.entry put (says_when desk.editor t.request.fields knows) (ap made this) call moment (subst (TellsRuling sent (changed_by one.entry.ruling)) (sym said) tt)
  ]

  pub own_turn : (t : Turn) → AsksFor t.request own_ask → t.request.body ≡ body sent →
      ((other : Ask) → AsksFor t.request other → other ≡ own_ask) → ((s : ℕ) → IsRefusal t.request s → ⊥) → (IsAtContainers t.request → ⊥) →
      IsSaid desk t.request t.moment t.part t.said → IsOwnTurn client sent t
  own_turn t asks is one never away said = go t.said refl said
    where
      go : (s : Said) → t.said ≡ s → IsSaid desk t.request t.moment t.part s → IsOwnTurn client sent t
      go (answer a) e h = by_did t t.part a (by_answered t.request t.moment t.part a asks is one never away h.2) refl e
      go (head a) e h = absurd (never_both (asks_head desk.editor t.request) h.0 (no_head desk.editor t.request own_ask asks))
      go options e h = absurd (never_both (asks_options desk.editor t.request) h.0 (no_options desk.editor t.request own_ask asks))
      go no_memory e (plain, inl none) = unmade (ap made none) (subst TellsNone (sym e) tt)
      go no_memory e (plain, inr more) =
          let told = subst (λ (q : Request). AnsweredTo desk.editor desk q t.moment (t.part ++ more.0) more.1) (judged_itself desk.editor t.request own_ask asks) more.2 in
          by_begun t more.0 (t.part ++ more.0) more.1 (by_answered t.request t.moment (t.part ++ more.0) more.1 asks is one never away told) refl e
