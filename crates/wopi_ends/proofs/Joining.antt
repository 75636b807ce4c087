-- What passes between a client and a host is a talk of the client's session over the shard's history.
use Rattle.std.proofs.Common.{◌≡◌, ◌≢◌, ℕ, List, [], ◌∷◌, ◌++◌, Some, sym, ap, subst, ◌∙◌, inl, inr, arith}
use Rattle.std.proofs.lemmas.List.Elements.{Contains-append_left, Contains-push, Contains-push_cases}
use Rattle.std.specs.List.{Contains}
use Rattle.outside.specs.declared.dialer.Exchange.{Exchange}
use Rattle.wopi_model.specs.declared.calls.Ruling.{Ruling}
use Rattle.wopi_model.specs.Shard.{Step, Entry}
use Rattle.wopi_headers.specs.declared.answer.Answer.{Answer}
use Rattle.wopi_acts.specs.Answers.{ruling_told}
use Rattle.save_session.specs.declared.input.Input.{Input}
use Rattle.save_session.specs.declared.input.Input.TheVariants.{Reply, NoAnswer}
use Rattle.save_session.specs.declared.state.SessionOp.{SessionOp}
use Rattle.save_session.specs.declared.state.SessionOp.TheVariants as op
use Rattle.save_session.specs.declared.state.State.{State}
use Rattle.save_session.specs.declared.state.Effect.{Effect}
use Rattle.save_session.specs.declared.state.Effect.TheVariants.{Sends, Tells, Ignores}
use Rattle.save_session.specs.Session.{stepped}
use Rattle.wopi_client.specs.declared.desktop.Desktop.{Desktop}
use Rattle.host_server.specs.Deeds.{made}
use Rattle.host_server.specs.Turns.{Turn, Said, answer, head, options, no_memory}
use Rattle.wopi_world.specs.History.{Item, Ran}
use Rattle.wopi_world.specs.Requests.{Client, Sent, Put, sent_with, operation, call_of, look_of}
use Rattle.wopi_world.specs.Talks.{LooksSame, IsSameText, changed_by, Speaker, first_speaker, does, hears, Awaits, Came, TalksOver, IsTalkOver}
use Rattle.wopi_world.specs.Talks as talks
use Rattle.wopi_ends.specs.Messages.{TellsNone, TellsRuling, IsOwnTurn, unmade, makes, looked}
use Rattle.wopi_ends.specs.Hearing.{Spoken, own, aside, IsAsked, Ending, behind_all, at_bad, at_want, Hears}
use Rattle.wopi_ends.specs.Hearing as hearing
use Rattle.wopi_ends.specs.Crossing.{IsOwn, IsReadAs, Arrival, ComesOf, told_entry, told_none, IsReplyTo, Crosses, AreExchangedOver}
use Rattle.wopi_ends.specs.Crossing as crossing
use Rattle.wopi_ends.proofs.Hearing.{operation_is}

sent_stays : (speaker : Speaker) (session : State) (effect : Effect) (sent : Sent) → Contains speaker.sent sent → Contains (does speaker session effect).sent sent
sent_stays speaker session (Sends asked) sent h = Contains-append_left speaker.sent (sent_with session.body asked ∷ []) sent h
sent_stays speaker session (Tells outcome) sent h = h
sent_stays speaker session (Ignores input) sent h = h

hears_stays : (client : Client) (speaker : Speaker) (input : Input) (sent : Sent) → Contains speaker.sent sent → Contains (hears client speaker input).sent sent
hears_stays client speaker input sent h =
    let turn = stepped client.nonce speaker.session input in sent_stays speaker turn.session turn.effect sent h

-- what looks like what was said looks like what that looks like

same_text : (asked : SessionOp) (got a other : Answer) → IsSameText asked got a → IsSameText asked a other → IsSameText asked got other
same_text op.Info got a other g h = tt
same_text op.TakeLock got a other g h = tt
same_text op.Get got a other g h = (g.0 ∙ h.0, g.1 ∙ h.1)
same_text (op.Put number) got a other g h = g ∙ h
same_text (op.Relock number) got a other g h = tt
same_text (op.Refresh number) got a other g h = tt
same_text (op.Unlock number) got a other g h = tt

looks_through : (asked : SessionOp) (got a other : Answer) → LooksSame asked got a → LooksSame asked a other → LooksSame asked got other
looks_through asked got a other g h =
    record {
      status = g.status ∙ h.status;
      lock = λ conflict. g.lock conflict ∙ h.lock (sym g.status ∙ conflict);
      reason = λ conflict. g.reason conflict ∙ h.reason (sym g.status ∙ conflict);
      text = λ ok. same_text asked got a other (g.text ok) (h.text (sym g.status ∙ ok));
    }

fault_ok : (status : ℕ) → status ≡ 503 → status ≢ 200
fault_ok status is e = omega (arith, is, e)

fault_conflict : (status : ℕ) → status ≡ 503 → status ≢ 409
fault_conflict status is e = omega (arith, is, e)

-- what was said to a message tells the entry to who reads it, or no entry
data Reads (sent : Sent) (ruling : Ruling) (got : Answer) : Type 0 where
  tells : LooksSame (operation sent) got (ruling_told ruling) → Reads sent ruling got
  fails : got.status ≢ 200 → got.status ≢ 409 → Reads sent ruling got

reads_ruling : (sent : Sent) (ruling : Ruling) (said : Said) (got : Answer) → TellsRuling sent ruling said → IsReadAs sent said got → Reads sent ruling got
reads_ruling sent ruling (answer a) got looks is =
    tells (looks_through (operation sent) got a (ruling_told ruling) is looks)
reads_ruling sent ruling (head a) got looks is = absurd looks
reads_ruling sent ruling options got looks is = absurd looks
reads_ruling sent ruling no_memory got looks is = fails (fault_ok got.status is) (fault_conflict got.status is)

reads_none : (sent : Sent) (said : Said) (got : Answer) → TellsNone said → IsReadAs sent said got → (got.status ≢ 200) × (got.status ≢ 409)
reads_none sent (answer a) got none is =
    let status : got.status ≡ a.status = is.status in
    ((λ e. none.0 (sym status ∙ e)), (λ e. none.1 (sym status ∙ e)))
reads_none sent (head a) got none is = absurd none
reads_none sent options got none is = absurd none
reads_none sent no_memory got none is = (fault_ok got.status is, fault_conflict got.status is)

-- one entry was made
one_entry : (one other : Entry) (rest : List Entry) → one ∷ [] ≡ other ∷ rest → one ≡ other
one_entry one other rest e = cc

module _ (desktop : Desktop) (client : Client) (own_turns : (sent : Sent) (t : Turn) → IsOwn desktop client sent t → IsOwnTurn client sent t) where
  -- what came of a message that made an entry: the session's call, or a look at the lock in its stead; and what was said tells it
  data Enters (sent : Sent) (t : Turn) (entry : Entry) : Type 0 where
    of_call : entry.call ≡ call_of client sent → TellsRuling sent entry.ruling t.said → Enters sent t entry
    in_stead : (number : ℕ) (contents : List ℕ) → sent ≡ Put number contents → entry.call ≡ look_of client → TellsRuling sent (changed_by entry.ruling) t.said → Enters sent t entry

  enters : (sent : Sent) (t : Turn) (entry : Entry) → made t.part ≡ entry ∷ [] → IsOwnTurn client sent t → Enters sent t entry
  enters sent t entry one (unmade none says) = let bad : [] ≡ entry ∷ [] = sym none ∙ one in cc
  enters sent t entry one (makes other made_other call moment says) =
      let same : entry ≡ other = one_entry entry other [] (sym one ∙ made_other) in
      of_call (ap (λ (e : Entry). e.call) same ∙ call) (subst (λ (e : Entry). TellsRuling sent e.ruling t.said) (sym same) says)
  enters sent t entry one (looked number contents other put when made_other call moment says) =
      let same : entry ≡ other = one_entry entry other [] (sym one ∙ made_other) in
      in_stead number contents put (ap (λ (e : Entry). e.call) same ∙ call) (subst (λ (e : Entry). TellsRuling sent (changed_by e.ruling) t.said) (sym same) says)

  says_none : (sent : Sent) (t : Turn) → made t.part ≡ [] → IsOwnTurn client sent t → TellsNone t.said
  says_none sent t none (unmade _ says) = says
  says_none sent t none (makes other made_other call moment says) = let bad : [] ≡ other ∷ [] = sym none ∙ made_other in cc
  says_none sent t none (looked number contents other put when made_other call moment says) = let bad : [] ≡ other ∷ [] = sym none ∙ made_other in cc

  -- of each message that made an entry it is known what came of its request, and what its answer tells
  record IsKnown (came : List Came) (sent : Sent) (t : Turn) : Type 0 where
    ruling : Ruling
    there : Contains came (record { sent = sent; ruling = ruling })
    reads : (got : Answer) → IsReadAs sent t.said got → Reads sent ruling got

  abbrev AreKnown : List Arrival → List Came → Type 0
  AreKnown arrivals came = (sent : Sent) (t : Turn) → Contains arrivals (record { sent = sent; turn = t }) → IsKnown came sent t

  known_push : (arrivals : List Arrival) (came : List Came) (one : Sent) (turn : Turn) (new : Came) → AreKnown arrivals came → IsKnown (came ++ new ∷ []) one turn →
      AreKnown (arrivals ++ record { sent = one; turn = turn } ∷ []) (came ++ new ∷ [])
  known_push arrivals came one turn new known k sent t there =
      elim (Contains-push_cases arrivals (record { sent = one; turn = turn }) (record { sent = sent; turn = t }) there) [
        | inl old ↦
            let was = known sent t old in
            record { ruling = was.ruling; there = Contains-append_left came (new ∷ []) (record { sent = sent; ruling = was.ruling }) was.there; reads = was.reads }
        | inr same ↦ subst (λ (a : Arrival). IsKnown (came ++ new ∷ []) a.sent a.turn) same k
      ]

  known_none : AreKnown [] []
  known_none sent t there = absurd (omega (arith, there.1))

  looks_awaited : (speaker : Speaker) (sent : Sent) (awaits : Awaits speaker sent) (got : Answer) (ruling : Ruling) → LooksSame (operation sent) got (ruling_told ruling) →
      LooksSame awaits.waiting.op got (ruling_told ruling)
  looks_awaited speaker sent awaits got ruling looks =
      subst (λ (o : SessionOp). LooksSame o got (ruling_told ruling)) (ap operation awaits.sent_is ∙ operation_is speaker.session.body awaits.waiting.op) looks

  answers : (speaker : Speaker) (came : List Came) (sent : Sent) (awaits : Awaits speaker sent) (ruling : Ruling) (got : Answer) (heard : List Input) (items : List Item) →
      Contains came (record { sent = sent; ruling = ruling }) → Reads sent ruling got → TalksOver client (hears client speaker (Reply got)) came heard items →
      TalksOver client speaker came (Reply got ∷ heard) items
  answers speaker came sent awaits ruling got heard items there (tells looks) more =
      talks.answered speaker came (record { sent = sent; ruling = ruling }) awaits got heard items there (looks_awaited speaker sent awaits got ruling looks) more
  answers speaker came sent awaits ruling got heard items there (fails ok conflict) more = talks.refused speaker came got heard items ok conflict more

  hears_reply : (speaker : Speaker) (arrivals : List Arrival) (came : List Came) (sent : Sent) (awaits : Awaits speaker sent) (got : Answer) (heard : List Input) (items : List Item) →
      AreKnown arrivals came → ComesOf desktop client arrivals sent got → TalksOver client (hears client speaker (Reply got)) came heard items →
      TalksOver client speaker came (Reply got ∷ heard) items
  hears_reply speaker arrivals came sent awaits got heard items known (told_entry t there reads) more =
      let k = known sent t there in
      answers speaker came sent awaits k.ruling got heard items k.there (k.reads got reads) more
  hears_reply speaker arrivals came sent awaits got heard items known (told_none t own_t none reads) more =
      let r = reads_none sent t.said got (says_none sent t none (own_turns sent t own_t)) reads in
      talks.refused speaker came got heard items r.0 r.1 more
  hears_reply speaker arrivals came sent awaits got heard items known (crossing.refused ok conflict) more = talks.refused speaker came got heard items ok conflict more

  abbrev WereSent : List Sent → Speaker → Type 0
  WereSent requests speaker = (sent : Sent) → Contains requests sent → Contains speaker.sent sent

  were_sent_push : (requests : List Sent) (speaker : Speaker) (one : Sent) → WereSent requests speaker → Contains speaker.sent one → WereSent (requests ++ one ∷ []) speaker
  were_sent_push requests speaker one were new sent there =
      elim (Contains-push_cases requests one sent there) [ inl old ↦ were sent old | inr same ↦ subst (Contains speaker.sent) same new ]

  were_sent_hears : (requests : List Sent) (speaker : Speaker) (input : Input) → WereSent requests speaker → WereSent requests (hears client speaker input)
  were_sent_hears requests speaker input were sent there = hears_stays client speaker input sent (were sent there)

  -- a message makes an entry, of which the answer tells that ruling
  known_new : (arrivals : List Arrival) (came : List Came) (sent : Sent) (t : Turn) (ruling : Ruling) → AreKnown arrivals came → TellsRuling sent ruling t.said →
      AreKnown (arrivals ++ record { sent = sent; turn = t } ∷ []) (came ++ record { sent = sent; ruling = ruling } ∷ [])
  known_new arrivals came sent t ruling known says =
      let new : Came = record { sent = sent; ruling = ruling } in
      known_push arrivals came sent t new known (record { ruling = ruling; there = Contains-push came new; reads = λ got reads. reads_ruling sent ruling t.said got says reads })

  arriving : (requests : List Sent) (arrivals : List Arrival) (speaker : Speaker) (came : List Came) (sent : Sent) (t : Turn) (entry : Entry) (heard : List Input) (items : List Item) →
      WereSent requests speaker → AreKnown arrivals came → Contains requests sent → Enters sent t entry →
      ((came' : List Came) → AreKnown (arrivals ++ record { sent = sent; turn = t } ∷ []) came' → TalksOver client speaker came' heard items) →
      TalksOver client speaker came heard (Ran (Step entry) ∷ items)
  arriving requests arrivals speaker came sent t entry heard items were known there (of_call call says) more =
      talks.arrives speaker came sent entry heard items (were sent there) call
      (more (came ++ record { sent = sent; ruling = entry.ruling } ∷ []) (known_new arrivals came sent t entry.ruling known says))
  arriving requests arrivals speaker came sent t entry heard items were known there (in_stead number contents put call says) more =
      let ruling = changed_by entry.ruling in
      talks.looked speaker came number contents entry heard items (subst (Contains speaker.sent) put (were sent there)) call
      (subst (λ (x : Sent). TalksOver client speaker (came ++ record { sent = x; ruling = ruling } ∷ []) heard items) put
      (more (came ++ record { sent = sent; ruling = ruling } ∷ []) (known_new arrivals came sent t ruling known says)))

  -- What goes on with the rest of the exchanges once the exchange of a request has ended, or one for a copy.
  abbrev Rest : Speaker → List Spoken → List Input → (List Arrival → Type 0) → Type 0
  Rest speaker spoken heard P =
      (requests : List Sent) (arrivals : List Arrival) (came : List Came) (items : List Item) → P arrivals → Crosses desktop client requests arrivals spoken items →
      WereSent requests speaker → AreKnown arrivals came → TalksOver client speaker came heard items

  while_asked : (speaker : Speaker) (sent : Sent) (exchange : Exchange) (spoken : List Spoken) (heard : List Input) → Contains speaker.sent sent →
      Rest speaker spoken heard (λ arrivals. IsReplyTo desktop client arrivals sent exchange.reply) →
      (requests : List Sent) (arrivals : List Arrival) (came : List Came) (items : List Item) → Crosses desktop client requests arrivals (own sent exchange ∷ spoken) items →
      WereSent requests speaker → AreKnown arrivals came → TalksOver client speaker came heard items
  while_asked speaker sent exchange spoken heard was rest requests arrivals came items (crossing.sends _ _ _ _ _ _ c) were known =
      while_asked speaker sent exchange spoken heard was rest (requests ++ sent ∷ []) arrivals came items c (were_sent_push requests speaker sent were was) known
  while_asked speaker sent exchange spoken heard was rest requests arrivals came (item ∷ items) (crossing.arrives _ _ one t entry _ _ there own_t made_one c) were known =
      arriving requests arrivals speaker came one t entry heard items were known there (enters one t entry made_one (own_turns one t own_t))
      (λ came' k. while_asked speaker sent exchange spoken heard was rest requests (arrivals ++ record { sent = one; turn = t } ∷ []) came' items c were k)
  while_asked speaker sent exchange spoken heard was rest requests arrivals came items (crossing.replied _ _ _ _ _ _ reply c) were known =
      rest requests arrivals came items reply c were known
  while_asked speaker sent exchange spoken heard was rest requests arrivals came (item ∷ items) (crossing.passes _ _ _ _ _ other c) were known =
      talks.passes speaker came item heard items other (while_asked speaker sent exchange spoken heard was rest requests arrivals came items c were known)

  while_copying : (speaker : Speaker) (exchange : Exchange) (spoken : List Spoken) (heard : List Input) → Rest speaker spoken heard (λ arrivals. Unit {0}) →
      (requests : List Sent) (arrivals : List Arrival) (came : List Came) (items : List Item) → Crosses desktop client requests arrivals (aside exchange ∷ spoken) items →
      WereSent requests speaker → AreKnown arrivals came → TalksOver client speaker came heard items
  while_copying speaker exchange spoken heard rest requests arrivals came (item ∷ items) (crossing.arrives _ _ one t entry _ _ there own_t made_one c) were known =
      arriving requests arrivals speaker came one t entry heard items were known there (enters one t entry made_one (own_turns one t own_t))
      (λ came' k. while_copying speaker exchange spoken heard rest requests (arrivals ++ record { sent = one; turn = t } ∷ []) came' items c were k)
  while_copying speaker exchange spoken heard rest requests arrivals came items (crossing.copied _ _ _ _ _ c) were known = rest requests arrivals came items tt c were known
  while_copying speaker exchange spoken heard rest requests arrivals came (item ∷ items) (crossing.passes _ _ _ _ _ other c) were known =
      talks.passes speaker came item heard items other (while_copying speaker exchange spoken heard rest requests arrivals came items c were known)

  -- behind the last exchange
  afterwards : (speaker : Speaker) (requests : List Sent) (arrivals : List Arrival) (came : List Came) (items : List Item) → Crosses desktop client requests arrivals [] items →
      WereSent requests speaker → AreKnown arrivals came → TalksOver client speaker came [] items
  afterwards speaker requests arrivals came [] (crossing.over _ _) were known = talks.ends speaker came
  afterwards speaker requests arrivals came (item ∷ items) (crossing.arrives _ _ one t entry _ _ there own_t made_one c) were known =
      arriving requests arrivals speaker came one t entry [] items were known there (enters one t entry made_one (own_turns one t own_t))
      (λ came' k. afterwards speaker requests (arrivals ++ record { sent = one; turn = t } ∷ []) came' items c were k)
  afterwards speaker requests arrivals came (item ∷ items) (crossing.passes _ _ _ _ _ other c) were known =
      talks.passes speaker came item [] items other (afterwards speaker requests arrivals came items c were known)

  -- a reply of which nothing is heard is the last one
  unheard : (speaker : Speaker) (sent : Sent) (exchange : Exchange) → Contains speaker.sent sent → Rest speaker (own sent exchange ∷ []) [] (λ arrivals. Unit {0})
  unheard speaker sent exchange was requests arrivals came items all c were known =
      while_asked speaker sent exchange [] [] was (λ requests' arrivals' came' items' reply c' were' known'. afterwards speaker requests' arrivals' came' items' c' were' known')
      requests arrivals came items c were known

  joins : (ending : Ending) (speaker : Speaker) (spoken : List Spoken) (heard : List Input) → Hears desktop client ending speaker spoken heard → Rest speaker spoken heard (λ arrivals. Unit {0})
  joins behind_all speaker [] [] (hearing.over _) requests arrivals came items all c were known = afterwards speaker requests arrivals came items c were known
  joins at_want speaker [] [] (hearing.unsent _) requests arrivals came items all c were known = afterwards speaker requests arrivals came items c were known
  joins ending speaker spoken (input ∷ heard) (hearing.prompted _ _ _ _ _ none h) requests arrivals came items all c were known =
      talks.prompted speaker came input heard items none
      (joins ending (hears client speaker input) spoken heard h requests arrivals came items tt c (were_sent_hears requests speaker input were) known)
  joins ending speaker (one ∷ spoken) (input ∷ heard) (hearing.answered _ _ sent exchange bytes got _ _ asked is reads h) requests arrivals came items all c were known =
      while_asked speaker sent exchange spoken (Reply got ∷ heard) asked.was_sent
      (λ requests' arrivals' came' items' reply c' were' known'.
      let of_reply : IsReplyTo desktop client arrivals' sent (Some bytes) = subst (IsReplyTo desktop client arrivals' sent) is reply in
      hears_reply speaker arrivals' came' sent asked.awaits got heard items' known' (of_reply got reads)
      (joins ending (hears client speaker (Reply got)) spoken heard h requests' arrivals' came' items' tt c' (were_sent_hears requests' speaker (Reply got) were') known'))
      requests arrivals came items c were known
  joins ending speaker (one ∷ spoken) (input ∷ heard) (hearing.lost _ _ sent exchange _ _ asked is h) requests arrivals came items all c were known =
      while_asked speaker sent exchange spoken (NoAnswer ∷ heard) asked.was_sent
      (λ requests' arrivals' came' items' reply c' were' known'.
      talks.prompted speaker came' NoAnswer heard items' tt
      (joins ending (hears client speaker NoAnswer) spoken heard h requests' arrivals' came' items' tt c' (were_sent_hears requests' speaker NoAnswer were') known'))
      requests arrivals came items c were known
  joins (at_bad at) speaker (one ∷ []) [] (hearing.bad _ sent exchange reply _ asked is bad) requests arrivals came items all c were known =
      unheard speaker sent exchange asked.was_sent requests arrivals came items tt c were known
  joins at_want speaker (one ∷ []) [] (hearing.unread _ sent exchange reply asked is) requests arrivals came items all c were known =
      unheard speaker sent exchange asked.was_sent requests arrivals came items tt c were known
  joins ending speaker (one ∷ spoken) heard (hearing.copied _ _ name text exchange _ _ is h) requests arrivals came items all c were known =
      while_copying speaker exchange spoken heard
      (λ requests' arrivals' came' items' any c' were' known'. joins ending speaker spoken heard h requests' arrivals' came' items' tt c' were' known')
      requests arrivals came items c were known

  none_sent : (speaker : Speaker) → WereSent [] speaker
  none_sent speaker sent there = absurd (omega (arith, there.1))

  pub crossing_is_talk : (ending : Ending) (spoken : List Spoken) (heard : List Input) (history : List Item) → Hears desktop client ending first_speaker spoken heard →
      AreExchangedOver desktop client spoken history → IsTalkOver client heard history
  crossing_is_talk ending spoken heard history h c = joins ending first_speaker spoken heard h [] [] [] history tt c (none_sent first_speaker) known_none
