-- Each session of a valid world is a talk over the world's history, and so every valid world is safe.
use Rattle.std.proofs.Common.{◌≡◌, ◌≢◌, ◌⊎◌, ◌==◌, ℕ, ◌<◌, Bool, true, cond, List, [], ◌∷◌, ◌++◌, length, Option, None, Some, unwrap_or, refl, sym, ap, subst, ◌∙◌, inl, inr, arith}
use Rattle.std.proofs.lemmas.Bool.{cond_both, cases_eq, eqb-true, eq-eqb, ne_eqb}
use Rattle.std.proofs.lemmas.List.{append_assoc, append-nil, length-append}
use Rattle.std.proofs.lemmas.List.Elements.{Contains-append_left, Contains-push}
use Rattle.std.proofs.lemmas.Option.{slice_get_within}
use Rattle.std.specs.List.{slice_get, AllByRecursion, Contains}
use Rattle.wopi_model.specs.declared.calls.Call.{Call}
use Rattle.wopi_model.specs.declared.calls.Ruling.{Ruling}
use Rattle.wopi_model.specs.Step.{bare}
use Rattle.wopi_model.specs.Shard.{Shard, Tick}
use Rattle.wopi_model.proofs.Replacing.{keeps_contents}
use Rattle.wopi_model.proofs.Conflicts.{tells_why}
use Rattle.wopi_acts.specs.Answers.{ruling_told}
use Rattle.save_session.specs.declared.input.Input.{Input}
use Rattle.save_session.specs.declared.input.Input.TheVariants.{Reply as Replies, NoAnswer}
use Rattle.save_session.specs.declared.state.SessionOp.{SessionOp}
use Rattle.save_session.specs.declared.state.State.{State}
use Rattle.save_session.specs.declared.state.Waiting.{Waiting}
use Rattle.save_session.specs.declared.state.Effect.{Effect}
use Rattle.save_session.specs.declared.state.Effect.TheVariants.{Sends, Tells, Ignores}
use Rattle.save_session.specs.declared.state.Turn.{Turn}
use Rattle.save_session.specs.Session.{stepped, body_of}
use Rattle.wopi_world.specs.History.{Item, Ran, Restarted, IsAllowed}
use Rattle.wopi_world.specs.Requests.{Client, Wish, Start, Read, Save, Refresh, Close, input_of, sent_with, call_of, Sent, PresentsNone}
use Rattle.wopi_world.specs.World.{Setting, Request, Reply, Told, Member, World, first_shard, first_world, Event, Asks, Deliver, Answer as Answers, Lose, Foreign, Ticks, Entry, Restarts, Fault, Refused, next_first, ruling_in, item_of, with_item, enters, delivered_by, delivered, replied, Ask, Unread, One, Copy, asks_one, is_taken, tries, foreign, takes, turns, for_client, is_asked, answers_sender, answers_place, answers, refuses, comes, run_from, run}
use Rattle.wopi_world.specs.Valid.{IsOfNoSession, AskIsOfNoSession, IsValidEvent, AreValid, IsValid}
use Rattle.wopi_world.specs.Safe.{KeepsAll, TellsAll, IsSafe}
use Rattle.wopi_world.specs.Sessions.{KeepsIds}
use Rattle.wopi_world.specs.Talks.{Speaker, first_speaker, does, hears, hears_all, told_by, Awaits, Came, IsNoReply, IsOfOthers, TalksOver, IsTalkOver, RestartsLater, IsSafeFor}
use Rattle.wopi_world.specs.Talks as talk
use Rattle.wopi_world.proofs.Lists.{get_left, get_new, get_back}
use Rattle.wopi_world.proofs.Lengthening.{Along-weaker}
use Rattle.wopi_world.proofs.Moving.{same_reopened}
use Rattle.wopi_world.proofs.OneRun.{AreSpaced, spaced-split, issued}
use Rattle.wopi_world.proofs.Coming.{answered_in}
use Rattle.wopi_world.proofs.Fairness.{fair}
use Rattle.wopi_world.proofs.Waiting.{WaitsFor, stepped_waits}
use Rattle.wopi_world.proofs.Seeing.{looks_itself}
use Rattle.wopi_world.proofs.Naming.{apart_lem}
use Rattle.wopi_world.proofs.Talking.{talk_lem}

-- the session as it is in the world

-- what is told of a request came of it, or tells no entry
abbrev IsOfCome : List Came → Sent → Ruling → Type 0
IsOfCome came op ruling = Contains came (record { sent = op; ruling = ruling }) ⊎ ((ruling.status ≢ 200) × (ruling.status ≢ 409))

record Agrees (s : ℕ) (requests : List Request) (replies : List Reply) (member : Member) (speaker : Speaker) (came : List Came) : Type 0 where
  session_is : member.session ≡ speaker.session
  told_is : member.told ≡ speaker.told
  was_sent : (r : ℕ) (op : Sent) → slice_get requests r ≡ Some (record { sender = s; op = op }) → Contains speaker.sent op
  asked : (r : ℕ) → member.asked ≡ Some r →
      (w : Waiting) × (member.session.waits ≡ Some w) × (slice_get requests r ≡ Some (record { sender = s; op = sent_with member.session.body w.op }))
  replied : (p : ℕ) (reply : Reply) (r : ℕ) → slice_get replies p ≡ Some reply → reply.request ≡ Some r → r < length requests
  came_of : (p : ℕ) (reply : Reply) (r : ℕ) (op : Sent) → slice_get replies p ≡ Some reply → reply.request ≡ Some r →
      slice_get requests r ≡ Some (record { sender = s; op = op }) → IsOfCome came op reply.ruling

more_come : (came : List Came) (new : Came) (op : Sent) (ruling : Ruling) → IsOfCome came op ruling → IsOfCome (came ++ new ∷ []) op ruling
more_come came new op ruling (inl there) = inl (Contains-append_left came (new ∷ []) (record { sent = op; ruling = ruling }) there)
more_come came new op ruling (inr none) = inr none

-- a request arrived
agrees-came : (s : ℕ) (requests : List Request) (replies : List Reply) (member : Member) (speaker : Speaker) (came : List Came) (new : Came) →
    Agrees s requests replies member speaker came → Agrees s requests replies member speaker (came ++ new ∷ [])
agrees-came s requests replies member speaker came new h =
    record {
      session_is = h.session_is;
      told_is = h.told_is;
      was_sent = h.was_sent;
      asked = h.asked;
      replied = h.replied;
      came_of = λ p reply r op a b c. more_come came new op reply.ruling (h.came_of p reply r op a b c);
    }

-- a reply is listed
agrees-reply : (s : ℕ) (requests : List Request) (replies : List Reply) (member : Member) (speaker : Speaker) (came : List Came) (reply : Reply) →
    Agrees s requests replies member speaker came → ((r : ℕ) → reply.request ≡ Some r → r < length requests) →
    ((r : ℕ) (op : Sent) → reply.request ≡ Some r → slice_get requests r ≡ Some (record { sender = s; op = op }) → IsOfCome came op reply.ruling) →
    Agrees s requests (replies ++ reply ∷ []) member speaker came
agrees-reply s requests replies member speaker came reply h bound new =
    record {
      session_is = h.session_is;
      told_is = h.told_is;
      was_sent = h.was_sent;
      asked = h.asked;
      replied = λ p one r a b. elim (get_back replies reply p one a) [
        | inl old ↦ h.replied p one r old b
        | inr same ↦ bound r (ap (λ (x : Reply). x.request) same.1 ∙ b)
      ];
      came_of = λ p one r op a b c. elim (get_back replies reply p one a) [
        | inl old ↦ h.came_of p one r op old b c
        | inr same ↦ subst (λ (x : Reply). IsOfCome came op x.ruling) same.1 (new r op (ap (λ (x : Reply). x.request) same.1 ∙ b) c)
      ];
    }

within_more : (requests : List Request) (request : Request) (r : ℕ) → r < length requests → r < length (requests ++ request ∷ [])
within_more requests request r h = omega (arith, h, length-append requests (request ∷ []))

old_request : (s : ℕ) (requests : List Request) (request : Request) (r : ℕ) (op : Sent) → slice_get (requests ++ request ∷ []) r ≡ Some (record { sender = s; op = op }) → r < length requests →
    slice_get requests r ≡ Some (record { sender = s; op = op })
old_request s requests request r op e within =
    elim (get_back requests request r (record { sender = s; op = op }) e) [
      | inl old ↦ old
      | inr new ↦ let at = new.0 in absurd (omega (arith, within, at))
    ]

-- another session sends
agrees-other : (s : ℕ) (requests : List Request) (replies : List Reply) (member : Member) (speaker : Speaker) (came : List Came) (request : Request) →
    Agrees s requests replies member speaker came → request.sender ≢ s → Agrees s (requests ++ request ∷ []) replies member speaker came
agrees-other s requests replies member speaker came request h other =
    record {
      session_is = h.session_is;
      told_is = h.told_is;
      was_sent = λ r op e. elim (get_back requests request r (record { sender = s; op = op }) e) [
        | inl old ↦ h.was_sent r op old
        | inr new ↦ absurd (other (ap (λ (x : Request). x.sender) new.1))
      ];
      asked = λ r e.
          let old = h.asked r e in
          (old.0, old.1, get_left requests (request ∷ []) r (record { sender = s; op = sent_with member.session.body old.0.op }) old.2);
      replied = λ p reply r a b. within_more requests request r (h.replied p reply r a b);
      came_of = λ p reply r op a b c. h.came_of p reply r op a b (old_request s requests request r op c (h.replied p reply r a b));
    }

-- the session sends
agrees-send : (s : ℕ) (requests : List Request) (replies : List Reply) (member : Member) (speaker : Speaker) (came : List Came) (session : State) (asked : SessionOp) →
    Agrees s requests replies member speaker came → WaitsFor (Sends asked) session →
    Agrees s (requests ++ record { sender = s; op = sent_with session.body asked } ∷ []) replies
    (record { session = session; asked = Some (length requests); told = member.told }) (does speaker session (Sends asked)) came
agrees-send s requests replies member speaker came session asked h waits =
    let sent = sent_with session.body asked in
    let request : Request = record { sender = s; op = sent } in
    record {
      session_is = refl;
      told_is = h.told_is;
      was_sent = λ r op e. elim (get_back requests request r (record { sender = s; op = op }) e) [
        | inl old ↦ Contains-append_left speaker.sent (sent ∷ []) op (h.was_sent r op old)
        | inr new ↦ subst (Contains (speaker.sent ++ sent ∷ [])) (ap (λ (x : Request). x.op) new.1) (Contains-push speaker.sent sent)
      ];
      asked = λ r e. (
        waits.0,
        waits.1,
        (let place : length requests ≡ r = cc in
            subst (λ (n : ℕ). slice_get (requests ++ request ∷ []) n ≡ Some (record { sender = s; op = sent_with session.body waits.0.op })) place
            (subst (λ (o : SessionOp). slice_get (requests ++ request ∷ []) (length requests) ≡ Some (record { sender = s; op = sent_with session.body o })) (sym waits.2) (get_new requests request))),
      );
      replied = λ p reply r a b. within_more requests request r (h.replied p reply r a b);
      came_of = λ p reply r op a b c. h.came_of p reply r op a b (old_request s requests request r op c (h.replied p reply r a b));
    }

-- the session tells
agrees-tell : (s : ℕ) (requests : List Request) (replies : List Reply) (member : Member) (speaker : Speaker) (came : List Came) (session : State) (one other : Told) → one ≡ other →
    Agrees s requests replies member speaker came →
    Agrees s requests replies (record { session = session; asked = None; told = member.told ++ one ∷ [] }) (record { session = session; sent = speaker.sent; told = speaker.told ++ other ∷ [] }) came
agrees-tell s requests replies member speaker came session one other same h =
    record {
      session_is = refl;
      told_is = ap (λ (l : List Told). l ++ one ∷ []) h.told_is ∙ ap (λ (x : Told). speaker.told ++ x ∷ []) same;
      was_sent = h.was_sent;
      asked = λ r e. cc;
      replied = h.replied;
      came_of = h.came_of;
    }

module _ (setting : Setting) (client : Client) (s : ℕ) where
  abbrev In : World → Speaker → List Came → Type 0
  In world speaker came = Agrees s world.requests world.replies (world.members s) speaker came

  -- What a step of the world is to the session: the inputs that it hears, and the items that happen.
  record Steps (world next : World) (speaker : Speaker) (came : List Came) : Type 0 where
    speaker_then : Speaker
    came_then : List Came
    heard : List Input
    items : List Item
    agrees : In next speaker_then came_then
    history_is : next.history ≡ world.history ++ items
    hears_is : hears_all client speaker heard ≡ speaker_then
    goes : (more : List Input) (later : List Item) → TalksOver client speaker_then came_then more later → TalksOver client speaker came (heard ++ more) (items ++ later)

  -- it hears nothing, and nothing happens
  quiet : (world next : World) (speaker : Speaker) (came : List Came) → next.history ≡ world.history → In next speaker came → Steps world next speaker came
  quiet world next speaker came same h =
      record {
        speaker_then = speaker;
        came_then = came;
        heard = [];
        items = [];
        agrees = h;
        history_is = same ∙ sym (append-nil world.history);
        hears_is = refl;
        goes = λ more later g. g;
      }

  -- an item of others happens
  passing : (world next : World) (speaker : Speaker) (came : List Came) (item : Item) → next.history ≡ world.history ++ item ∷ [] → IsOfOthers client item → In next speaker came →
      Steps world next speaker came
  passing world next speaker came item is other h =
      record {
        speaker_then = speaker;
        came_then = came;
        heard = [];
        items = item ∷ [];
        agrees = h;
        history_is = is;
        hears_is = refl;
        goes = λ more later g. talk.passes speaker came item more later other g;
      }

  -- the session hears an input
  hearing : (world next : World) (speaker : Speaker) (came : List Came) (input : Input) → next.history ≡ world.history → In next (hears client speaker input) came →
      ((more : List Input) (later : List Item) → TalksOver client (hears client speaker input) came more later → TalksOver client speaker came (input ∷ more) later) → Steps world next speaker came
  hearing world next speaker came input same h goes =
      record {
        speaker_then = hears client speaker input;
        came_then = came;
        heard = input ∷ [];
        items = [];
        agrees = h;
        history_is = same ∙ sym (append-nil world.history);
        hears_is = refl;
        goes = goes;
      }

  hears-append : (speaker : Speaker) (first second : List Input) → hears_all client speaker (first ++ second) ≡ hears_all client (hears_all client speaker first) second
  hears-append speaker [] second = refl
  hears-append speaker (input ∷ first) second = hears-append (hears client speaker input) first second

  -- one step and then another
  followed : (world mid next : World) (speaker : Speaker) (came : List Came) (first : Steps world mid speaker came) → Steps mid next first.speaker_then first.came_then → Steps world next speaker came
  followed world mid next speaker came first second =
      record {
        speaker_then = second.speaker_then;
        came_then = second.came_then;
        heard = first.heard ++ second.heard;
        items = first.items ++ second.items;
        agrees = second.agrees;
        history_is = second.history_is ∙ ap (λ (l : List Item). l ++ second.items) first.history_is ∙ append_assoc world.history first.items second.items;
        hears_is = hears-append speaker first.heard second.heard ∙ ap (λ (x : Speaker). hears_all client x second.heard) first.hears_is ∙ second.hears_is;
        goes = λ more later g.
            subst (λ (l : List Input). TalksOver client speaker came l ((first.items ++ second.items) ++ later)) (sym (append_assoc first.heard second.heard more))
            (subst (λ (l : List Item). TalksOver client speaker came (first.heard ++ (second.heard ++ more)) l) (sym (append_assoc first.items second.items later))
            (first.goes (second.heard ++ more) (second.items ++ later) (second.goes more later g)));
      }

  -- turns

  own_takes : (world : World) (speaker : Speaker) (came : List Came) (session : State) (effect : Effect) → In world speaker came → WaitsFor effect session →
      In (takes world s (world.members s) session effect) (does speaker session effect) came
  own_takes world speaker came session (Sends asked) h waits =
      let member : Member = record { session = session; asked = Some (length world.requests); told = (world.members s).told } in
      subst (λ (b : Bool). Agrees s (world.requests ++ record { sender = s; op = sent_with session.body asked } ∷ []) world.replies (cond b member (world.members s)) (does speaker session (Sends asked)) came)
      (sym (eq-eqb s s refl)) (agrees-send s world.requests world.replies (world.members s) speaker came session asked h waits)
  own_takes world speaker came session (Tells outcome) h waits =
      let told_after : State → Told = λ before. record { number = session.number; outcome = outcome; contents = (unwrap_or session.contents []); saved = body_of before } in
      let one : Told = told_after (world.members s).session in
      let member : Member = record { session = session; asked = None; told = (world.members s).told ++ one ∷ [] } in
      subst (λ (b : Bool). Agrees s world.requests world.replies (cond b member (world.members s)) (does speaker session (Tells outcome)) came)
      (sym (eq-eqb s s refl)) (agrees-tell s world.requests world.replies (world.members s) speaker came session one (told_after speaker.session) (ap told_after h.session_is) h)
  own_takes world speaker came session (Ignores input) h waits = h

  own_turns : (world : World) (speaker : Speaker) (came : List Came) (input : Input) → In world speaker came →
      In (turns world s (stepped client.nonce (world.members s).session input)) (hears client speaker input) came
  own_turns world speaker came input h =
      let turn = stepped client.nonce (world.members s).session input in
      subst (λ (x : State). In (turns world s turn) (talk.turns speaker (stepped client.nonce x input)) came) h.session_is
      (own_takes world speaker came turn.session turn.effect h (stepped_waits client.nonce (world.members s).session input))

  takes_none : (world : World) (t : ℕ) (session : State) (effect : Effect) → (takes world t (world.members t) session effect).history ≡ world.history
  takes_none world t session (Sends asked) = refl
  takes_none world t session (Tells outcome) = refl
  takes_none world t session (Ignores input) = refl

  others_take : (t : ℕ) (world : World) (speaker : Speaker) (came : List Came) (session : State) (effect : Effect) → t ≢ s → In world speaker came →
      In (takes world t (world.members t) session effect) speaker came
  others_take t world speaker came session (Sends asked) apart h =
      let member : Member = record { session = session; asked = Some (length world.requests); told = (world.members t).told } in
      let request : Request = record { sender = t; op = sent_with session.body asked } in
      subst (λ (b : Bool). Agrees s (world.requests ++ request ∷ []) world.replies (cond b member (world.members s)) speaker came)
      (sym (ne_eqb s t (λ e. apart (sym e)))) (agrees-other s world.requests world.replies (world.members s) speaker came request h apart)
  others_take t world speaker came session (Tells outcome) apart h =
      let member : Member = record {
        session = session;
        asked = None;
        told = (world.members t).told ++ record { number = session.number; outcome = outcome; contents = (unwrap_or session.contents []); saved = body_of (world.members t).session } ∷ [];
      } in
      subst (λ (b : Bool). Agrees s world.requests world.replies (cond b member (world.members s)) speaker came)
      (sym (ne_eqb s t (λ e. apart (sym e)))) h
  others_take t world speaker came session (Ignores input) apart h = h

  others_turn : (t : ℕ) (world : World) (speaker : Speaker) (came : List Came) (turn : Turn) → t ≢ s → In world speaker came → Steps world (turns world t turn) speaker came
  others_turn t world speaker came turn apart h =
      quiet world (turns world t turn) speaker came (takes_none world t turn.session turn.effect) (others_take t world speaker came turn.session turn.effect apart h)

  for_client_steps : (world : World) (speaker : Speaker) (came : List Came) (found : Option Client) (body : Client → World) → In world speaker came →
      ((other : Client) → found ≡ Some other → Steps world (body other) speaker came) → Steps world (for_client world found body) speaker came
  for_client_steps world speaker came None body h f = quiet world world speaker came refl h
  for_client_steps world speaker came (Some other) body h f = f other refl

  module _ (mine : slice_get setting.clients s ≡ Some client) where
    same_client : (t : ℕ) (other : Client) → slice_get setting.clients t ≡ Some other → t ≡ s → client ≡ other
    same_client t other f same =
        let both : Some client ≡ Some other = sym mine ∙ ap (slice_get setting.clients) (sym same) ∙ f in
        cc

    -- a session is asked for something, or gets no answer
    prompts : (t : ℕ) (world : World) (speaker : Speaker) (came : List Came) (input : Input) → IsNoReply input → In world speaker came →
        Steps world (for_client world (slice_get setting.clients t) (λ other. turns world t (stepped other.nonce (world.members t).session input))) speaker came
    prompts t world speaker came input none h =
        for_client_steps world speaker came (slice_get setting.clients t) (λ other. turns world t (stepped other.nonce (world.members t).session input)) h
        (λ other f. elim (cases_eq t s) [
          | inl same ↦
              subst (λ (n : ℕ). Steps world (turns world n (stepped other.nonce (world.members n).session input)) speaker came) (sym same)
              (subst (λ (c : Client). Steps world (turns world s (stepped c.nonce (world.members s).session input)) speaker came) (same_client t other f same)
              (hearing world (turns world s (stepped client.nonce (world.members s).session input)) speaker came input
              (takes_none world s (stepped client.nonce (world.members s).session input).session (stepped client.nonce (world.members s).session input).effect)
              (own_turns world speaker came input h) (λ more later g. talk.prompted speaker came input more later none g)))
          | inr apart ↦ others_turn t world speaker came (stepped other.nonce (world.members t).session input) apart h
        ])

    -- answers

    asked_only : (asked_for : Option ℕ) (place : ℕ) → is_asked asked_for place ≡ true → asked_for ≡ Some place
    asked_only None place h = cc
    asked_only (Some own) place h = ap (λ (n : ℕ). Some n) (eqb-true own place h)

    -- the session hears what tells the ruling
    told_ruling : (world : World) (speaker : Speaker) (came : List Came) (ruling : Ruling) (w : Waiting) → In world speaker came → (world.members s).session.waits ≡ Some w →
        IsOfCome came (sent_with (world.members s).session.body w.op) ruling →
        (more : List Input) (later : List Item) → TalksOver client (hears client speaker (Replies (ruling_told ruling))) came more later →
        TalksOver client speaker came (Replies (ruling_told ruling) ∷ more) later
    told_ruling world speaker came ruling w h waits (inl there) more later g =
        let op = sent_with (world.members s).session.body w.op in
        let awaits : Awaits speaker op = record {
          waiting = w;
          waits = ap (λ (x : State). x.waits) (sym h.session_is) ∙ waits;
          sent_is = ap (λ (x : State). sent_with x.body w.op) h.session_is;
        } in
        talk.answered speaker came (record { sent = op; ruling = ruling }) awaits (ruling_told ruling) more later there (looks_itself w.op (ruling_told ruling)) g
    told_ruling world speaker came ruling w h waits (inr none) more later g = talk.refused speaker came (ruling_told ruling) more later none.0 none.1 g

    own_answered : (world : World) (speaker : Speaker) (came : List Came) (p : ℕ) (reply : Reply) (place : ℕ) → In world speaker came →
        slice_get world.replies p ≡ Some reply → reply.request ≡ Some place → Steps world (answered_in world client.nonce place reply.ruling s) speaker came
    own_answered world speaker came p reply place h e request =
        let turn = stepped client.nonce (world.members s).session (Replies (ruling_told reply.ruling)) in
        cond_both (is_asked (world.members s).asked place) (turns world s turn) world (λ (next : World). Steps world next speaker came)
        (λ t.
        let a = h.asked place (asked_only (world.members s).asked place t) in
        hearing world (turns world s turn) speaker came (Replies (ruling_told reply.ruling)) (takes_none world s turn.session turn.effect)
        (own_turns world speaker came (Replies (ruling_told reply.ruling)) h)
        (told_ruling world speaker came reply.ruling a.0 h a.1 (h.came_of p reply place (sent_with (world.members s).session.body a.0.op) e request a.2)))
        (λ f. quiet world world speaker came refl h)

    others_answered : (t : ℕ) (world : World) (speaker : Speaker) (came : List Came) (nonce : List ℕ) (place : ℕ) (ruling : Ruling) → t ≢ s → In world speaker came →
        Steps world (answered_in world nonce place ruling t) speaker came
    others_answered t world speaker came nonce place ruling apart h =
        let turn = stepped nonce (world.members t).session (Replies (ruling_told ruling)) in
        cond_both (is_asked (world.members t).asked place) (turns world t turn) world (λ (next : World). Steps world next speaker came)
        (λ e. others_turn t world speaker came turn apart h) (λ f. quiet world world speaker came refl h)

    answers_sender_steps : (world : World) (speaker : Speaker) (came : List Came) (p : ℕ) (reply : Reply) (place : ℕ) (found : Option Request) → In world speaker came →
        slice_get world.replies p ≡ Some reply → reply.request ≡ Some place → Steps world (answers_sender setting world place reply.ruling found) speaker came
    answers_sender_steps world speaker came p reply place None h e request = quiet world world speaker came refl h
    answers_sender_steps world speaker came p reply place (Some one) h e request =
        for_client_steps world speaker came (slice_get setting.clients one.sender) (λ other. answered_in world other.nonce place reply.ruling one.sender) h
        (λ other f. elim (cases_eq one.sender s) [
          | inl same ↦
              subst (λ (n : ℕ). Steps world (answered_in world other.nonce place reply.ruling n) speaker came) (sym same)
              (subst (λ (c : Client). Steps world (answered_in world c.nonce place reply.ruling s) speaker came) (same_client one.sender other f same)
              (own_answered world speaker came p reply place h e request))
          | inr apart ↦ others_answered one.sender world speaker came other.nonce place reply.ruling apart h
        ])

    answers_place_steps : (world : World) (speaker : Speaker) (came : List Came) (p : ℕ) (reply : Reply) (place : Option ℕ) → In world speaker came →
        slice_get world.replies p ≡ Some reply → reply.request ≡ place → Steps world (answers_place setting world reply.ruling place) speaker came
    answers_place_steps world speaker came p reply None h e request = quiet world world speaker came refl h
    answers_place_steps world speaker came p reply (Some place) h e request = answers_sender_steps world speaker came p reply place (slice_get world.requests place) h e request

    answers_steps : (world : World) (speaker : Speaker) (came : List Came) (p : ℕ) (found : Option Reply) → In world speaker came → slice_get world.replies p ≡ found →
        Steps world (answers setting world found) speaker came
    answers_steps world speaker came p None h e = quiet world world speaker came refl h
    answers_steps world speaker came p (Some reply) h e = answers_place_steps world speaker came p reply reply.request h e refl

    -- deliveries

    within : (requests : List Request) (place r : ℕ) (request : Request) → slice_get requests place ≡ Some request → Some place ≡ Some r → r < length requests
    within requests place r request e same =
        let at : place ≡ r = cc in
        subst (λ (n : ℕ). n < length requests) at (slice_get_within requests place request e)

    one_request : (requests : List Request) (place r : ℕ) (one other : Request) → slice_get requests place ≡ Some one → Some place ≡ Some r → slice_get requests r ≡ Some other → one ≡ other
    one_request requests place r one other e same get =
        let at : place ≡ r = cc in
        let both : Some one ≡ Some other = sym e ∙ ap (slice_get requests) at ∙ get in
        cc

    own_delivered : (world : World) (speaker : Speaker) (came : List Came) (place moment : ℕ) (op : Sent) → In world speaker came →
        slice_get world.requests place ≡ Some (record { sender = s; op = op }) → Steps world (delivered_by world place moment op (Some client)) speaker came
    own_delivered world speaker came place moment op h e =
        let call = call_of client op in
        let ruling = ruling_in world call moment in
        let next = enters world call moment in
        let new : Came = record { sent = op; ruling = ruling } in
        let reply : Reply = record { request = Some place; before = length world.history; after = length next.history; ruling = ruling } in
        let longer = agrees-came s world.requests world.replies (world.members s) speaker came new h in
        record {
          speaker_then = speaker;
          came_then = came ++ new ∷ [];
          heard = [];
          items = item_of world call moment ∷ [];
          agrees = agrees-reply s world.requests world.replies (world.members s) speaker (came ++ new ∷ []) reply longer
              (λ r same. within world.requests place r (record { sender = s; op = op }) e same)
              (λ r other same get.
              let ops : op ≡ other = ap (λ (x : Request). x.op) (one_request world.requests place r (record { sender = s; op = op }) (record { sender = s; op = other }) e same get) in
              subst (λ (o : Sent). IsOfCome (came ++ new ∷ []) o ruling) ops (inl (Contains-push came new)));
          history_is = refl;
          hears_is = refl;
          goes = λ more later g. talk.arrives speaker came op (Rattle.wopi_world.specs.World.entry_of world call moment) more later (h.was_sent place op e) refl g;
        }

    others_delivered : (other : Client) (t : ℕ) (world : World) (speaker : Speaker) (came : List Came) (place moment : ℕ) (op : Sent) → In world speaker came →
        slice_get world.requests place ≡ Some (record { sender = t; op = op }) → t ≢ s → PresentsNone client (call_of other op) →
        Steps world (delivered_by world place moment op (Some other)) speaker came
    others_delivered other t world speaker came place moment op h e apart free =
        let call = call_of other op in
        let next = enters world call moment in
        let reply : Reply = record { request = Some place; before = length world.history; after = length next.history; ruling = ruling_in world call moment } in
        passing world (delivered_by world place moment op (Some other)) speaker came (item_of world call moment) refl free
        (agrees-reply s world.requests world.replies (world.members s) speaker came reply h
        (λ r same. within world.requests place r (record { sender = t; op = op }) e same)
        (λ r own same get.
        absurd (apart (ap (λ (x : Request). x.sender) (one_request world.requests place r (record { sender = t; op = op }) (record { sender = s; op = own }) e same get)))))

    -- another session of the file presents ids of its own
    free_of : (events : List Event) → IsValid setting events → (t : ℕ) (other : Client) → slice_get setting.clients t ≡ Some other → t ≢ s → (op : Sent) → PresentsNone client (call_of other op)
    free_of events valid t other f apart op = apart_lem client other op (λ files nonces. apart (sym (valid.different s t client other mine f files nonces)))

    delivered_steps : (events : List Event) → IsValid setting events → (world : World) (speaker : Speaker) (came : List Came) (place moment : ℕ) (found : Option Request) → In world speaker came →
        slice_get world.requests place ≡ found → Steps world (delivered setting world place moment found) speaker came
    delivered_steps events valid world speaker came place moment None h e = quiet world world speaker came refl h
    delivered_steps events valid world speaker came place moment (Some one) h e = go (slice_get setting.clients one.sender) refl
      where
        go : (found : Option Client) → slice_get setting.clients one.sender ≡ found → Steps world (delivered_by world place moment one.op found) speaker came
        go None f = quiet world world speaker came refl h
        go (Some other) f =
            elim (cases_eq one.sender s) [
              | inl same ↦
                  let get : slice_get world.requests place ≡ Some (record { sender = s; op = one.op }) = subst (λ (n : ℕ). slice_get world.requests place ≡ Some (record { sender = n; op = one.op })) same e in
                  subst (λ (c : Client). Steps world (delivered_by world place moment one.op (Some c)) speaker came) (same_client one.sender other f same)
                  (own_delivered world speaker came place moment one.op h get)
              | inr apart ↦ others_delivered other one.sender world speaker came place moment one.op h e apart (free_of events valid one.sender other f apart one.op)
            ]

    -- others

    others_enter : (world : World) (speaker : Speaker) (came : List Came) (call : Call) (moment : ℕ) → IsOfNoSession setting call → In world speaker came →
        Steps world (enters world call moment) speaker came
    others_enter world speaker came call moment none h = passing world (enters world call moment) speaker came (item_of world call moment) refl (none s client mine) h

    -- a reply to nobody's request
    unanswerable : (world : World) (speaker : Speaker) (came : List Came) (before : ℕ) (last : Ruling) → In world speaker came → Steps world (replied world None before last) speaker came
    unanswerable world speaker came before last h =
        quiet world (replied world None before last) speaker came refl
        (agrees-reply s world.requests world.replies (world.members s) speaker came (record { request = None; before = before; after = length world.history; ruling = last }) h
        (λ r same. cc) (λ r op same get. cc))

    asks_one_steps : (world : World) (speaker : Speaker) (came : List Came) (call : Call) (moment before : ℕ) → IsOfNoSession setting call → In world speaker came →
        Steps world (asks_one world call moment before) speaker came
    asks_one_steps world speaker came call moment before none h =
        let first = others_enter world speaker came call moment none h in
        followed world (enters world call moment) (asks_one world call moment before) speaker came first
        (unanswerable (enters world call moment) first.speaker_then first.came_then before (ruling_in world call moment) first.agrees)

    tries_steps : (world : World) (speaker : Speaker) (came : List Came) (calls : List Call) (moment before : ℕ) (last : Ruling) → AllByRecursion (IsOfNoSession setting) calls → In world speaker came →
        Steps world (tries world calls moment before last) speaker came
    tries_steps world speaker came [] moment before last none h = unanswerable world speaker came before last h
    tries_steps world speaker came (call ∷ calls) moment before last none h =
        let ruling = ruling_in world call moment in
        let first = others_enter world speaker came call moment none.0 h in
        let more = followed world (enters world call moment) (tries (enters world call moment) calls moment before ruling) speaker came first
        (tries_steps (enters world call moment) first.speaker_then first.came_then calls moment before ruling none.1 first.agrees) in
        cond_both (is_taken ruling.reason) (tries (enters world call moment) calls moment before ruling) (asks_one world call moment before)
        (λ (next : World). Steps world next speaker came) (λ e. more) (λ e. asks_one_steps world speaker came call moment before none.0 h)

    foreign_steps : (world : World) (speaker : Speaker) (came : List Came) (ask : Ask) (moment before : ℕ) → AskIsOfNoSession setting ask → In world speaker came →
        Steps world (foreign world ask moment before) speaker came
    foreign_steps world speaker came Unread moment before none h = unanswerable world speaker came before (bare 401) h
    foreign_steps world speaker came (One call) moment before none h = asks_one_steps world speaker came call moment before none h
    foreign_steps world speaker came (Copy look creates) moment before none h =
        let first = others_enter world speaker came look moment none.0 h in
        cond_both ((ruling_in world look moment).status == 200) (tries (enters world look moment) creates moment before (bare 400)) (asks_one world look moment before)
        (λ (next : World). Steps world next speaker came)
        (λ e. followed world (enters world look moment) (tries (enters world look moment) creates moment before (bare 400)) speaker came first
        (tries_steps (enters world look moment) first.speaker_then first.came_then creates moment before (bare 400) none.1 first.agrees))
        (λ e. asks_one_steps world speaker came look moment before none.0 h)

    refuses_steps : (world : World) (speaker : Speaker) (came : List Came) (place status : ℕ) (found : Option Request) → status ≢ 200 → status ≢ 409 → In world speaker came →
        slice_get world.requests place ≡ found → Steps world (refuses world place status found) speaker came
    refuses_steps world speaker came place status None ok conflict h e = quiet world world speaker came refl h
    refuses_steps world speaker came place status (Some one) ok conflict h e =
        quiet world (refuses world place status (Some one)) speaker came refl
        (agrees-reply s world.requests world.replies (world.members s) speaker came
        (record { request = Some place; before = length world.history; after = length world.history; ruling = bare status }) h
        (λ r same. within world.requests place r one e same) (λ r op same get. inr (ok, conflict)))

    -- all events

    no_reply : (wish : Wish) → IsNoReply (input_of wish)
    no_reply Start = tt
    no_reply Read = tt
    no_reply (Save contents) = tt
    no_reply Refresh = tt
    no_reply Close = tt

    comes_steps : (events : List Event) → IsValid setting events → (world : World) (speaker : Speaker) (came : List Came) (event : Event) → IsValidEvent setting world event → In world speaker came →
        Steps world (comes setting world event) speaker came
    comes_steps events valid world speaker came (Asks t wish) v h = prompts t world speaker came (input_of wish) (no_reply wish) h
    comes_steps events valid world speaker came (Deliver place moment) v h = delivered_steps events valid world speaker came place moment (slice_get world.requests place) h refl
    comes_steps events valid world speaker came (Answers p) v h = answers_steps world speaker came p (slice_get world.replies p) h refl
    comes_steps events valid world speaker came (Lose t) v h = prompts t world speaker came NoAnswer tt h
    comes_steps events valid world speaker came (Foreign ask moment) v h = foreign_steps world speaker came ask moment (length world.history) v h
    comes_steps events valid world speaker came (Ticks moment) v h = passing world (with_item world (Ran (Tick moment))) speaker came (Ran (Tick moment)) refl tt h
    comes_steps events valid world speaker came (Entry call moment) v h = others_enter world speaker came call moment v h
    comes_steps events valid world speaker came (Restarts moment) v h =
        passing world (comes setting world (Restarts moment)) speaker came (Restarted moment (next_first setting world)) refl tt h
    comes_steps events valid world speaker came Fault v h = quiet world (comes setting world Fault) speaker came refl h
    comes_steps events valid world speaker came (Refused place status) v h = refuses_steps world speaker came place status (slice_get world.requests place) v.0 v.1 h refl

    run_steps : (all : List Event) → IsValid setting all → (world : World) (speaker : Speaker) (came : List Came) (events : List Event) → AreValid setting world events → In world speaker came →
        Steps world (run_from setting world events) speaker came
    run_steps all valid world speaker came [] v h = quiet world world speaker came refl h
    run_steps all valid world speaker came (event ∷ events) v h =
        let first = comes_steps all valid world speaker came event v.0 h in
        followed world (comes setting world event) (run_from setting (comes setting world event) events) speaker came first
        (run_steps all valid (comes setting world event) first.speaker_then first.came_then events v.1 first.agrees)

    first_agrees : In (first_world setting) first_speaker []
    first_agrees =
        record {
          session_is = refl;
          told_is = refl;
          was_sent = λ r op e. cc;
          asked = λ r e. cc;
          replied = λ p reply r a b. cc;
          came_of = λ p reply r op a b c. cc;
        }

pub session_talks : (setting : Setting) (events : List Event) (s : ℕ) (client : Client) → IsValid setting events → slice_get setting.clients s ≡ Some client →
    (heard : List Input) × IsTalkOver client heard (run setting events).history × (told_by client heard ≡ ((run setting events).members s).told)
session_talks setting events s client valid mine =
    let steps = run_steps setting client s mine events valid (first_world setting) first_speaker [] events valid.each (first_agrees setting client s mine) in
    let over : TalksOver client first_speaker [] (steps.heard ++ []) (steps.items ++ []) = steps.goes [] [] (talk.ends steps.speaker_then steps.came_then) in (
      steps.heard,
      subst (λ (l : List Item). IsTalkOver client steps.heard l) (append-nil steps.items ∙ sym steps.history_is)
          (subst (λ (l : List Input). TalksOver client first_speaker [] l (steps.items ++ [])) (append-nil steps.heard) over),
      ap (λ (x : Speaker). x.told) steps.hears_is ∙ sym steps.agrees.told_is,
    )

-- the whole

pub keeps_all : (shard : Shard) (item : Item) → IsAllowed shard item → KeepsAll shard item
keeps_all shard (Ran item) allowed = keeps_contents shard item allowed
keeps_all shard (Restarted moment first) allowed = λ name. same_reopened first (shard.files name).contents

pub tells_all : (shard : Shard) (item : Item) → IsAllowed shard item → TellsAll shard item
tells_all shard (Ran item) allowed = tells_why shard item allowed
tells_all shard (Restarted moment first) allowed = tt

restarts_later : (client : Client) (history : List Item) → AreSpaced [] history → RestartsLater client history
restarts_later client history spaced before later moment first place item e there use_ =
    let rest : AreSpaced [] (before ++ Restarted moment first ∷ later) = subst (AreSpaced []) (sym e) spaced in
    issued client moment before (spaced-split [] before (Restarted moment first ∷ later) rest).0 (place, item, there, use_)

safe_for : (setting : Setting) (events : List Event) (s : ℕ) (client : Client) → IsValid setting events → slice_get setting.clients s ≡ Some client →
    IsSafeFor client ((run setting events).members s).told (first_shard setting) (run setting events).history
safe_for setting events s client valid mine =
    let world = run setting events in
    let f = fair setting events valid in
    let talks = session_talks setting events s client valid mine in
    subst (λ (told : List Told). IsSafeFor client told (first_shard setting) world.history) talks.2
    (talk_lem setting.opening setting.opened setting.first client talks.0 world.history f.allowed (restarts_later client world.history f.spaced) talks.1)

pub safe_lem : (setting : Setting) (events : List Event) → IsValid setting events → IsSafe setting (run setting events)
safe_lem setting events valid =
    let f = fair setting events valid in
    let world = run setting events in
    let start = first_shard setting in
    record {
      kept = Along-weaker IsAllowed KeepsAll keeps_all start world.history f.allowed;
      risen = f.begins;
      told_why = Along-weaker IsAllowed TellsAll tells_all start world.history f.allowed;
      saves = λ s client own. (safe_for setting events s client valid own).saves;
    }

pub keeps_ids_lem : (setting : Setting) (events : List Event) (s : ℕ) (client : Client) → IsValid setting events → slice_get setting.clients s ≡ Some client →
    KeepsIds client (first_shard setting) (run setting events).history
keeps_ids_lem setting events s client valid own = (safe_for setting events s client valid own).ids
