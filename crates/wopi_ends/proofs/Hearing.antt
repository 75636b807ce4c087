-- A talk, and a drive, is what a session hears.
use Rattle.std.proofs.Common.{◌≡◌, ℕ, List, [], ◌∷◌, ◌++◌, Option, Some, None, Result, Ok, Err, unwrap_or, refl, sym, ap, subst, ◌∙◌}
use Rattle.std.proofs.lemmas.List.{append_assoc, append-nil}
use Rattle.std.proofs.lemmas.List.Elements.{Contains-append_left, Contains-append_right, Contains-push}
use Rattle.std.specs.List.{AllByRecursion}
use Rattle.outside.specs.declared.dialer.Exchange.{Exchange}
use Rattle.save_session.specs.declared.input.Input.{Input}
use Rattle.save_session.specs.declared.input.Input.TheVariants.{Reply, NoAnswer}
use Rattle.save_session.specs.declared.output.Outcome.{Outcome}
use Rattle.save_session.specs.declared.state.SessionOp.{SessionOp}
use Rattle.save_session.specs.declared.state.SessionOp.TheVariants as op
use Rattle.save_session.specs.declared.state.State.{State}
use Rattle.save_session.specs.declared.state.Waiting.{Waiting}
use Rattle.save_session.specs.declared.state.Effect.{Effect}
use Rattle.save_session.specs.declared.state.Effect.TheVariants.{Sends, Tells, Ignores}
use Rattle.save_session.specs.declared.state.Turn.{Turn}
use Rattle.save_session.specs.Session.{stepped, op_of, contents_with, body_while, body_of}
use Rattle.save_session.proofs.Ignoring.{stepped_leaves}
use Rattle.wopi_client.specs.declared.desktop.Desktop.{Desktop}
use Rattle.wopi_client.specs.declared.driving.DriveFault.{DriveFault}
use Rattle.wopi_client.specs.declared.driving.DriveFault.TheVariants.{BadReply, Memory}
use Rattle.wopi_client.specs.Asking.{request_bytes, TellsAnswer, IsBadAnswer}
use Rattle.wopi_client.specs.Talk.{after, Asks, Talk, Drive, tells, ignores, unsent, lost, answered, bad, unread}
use Rattle.wopi_client.specs.Talk as of_drive
use Rattle.wopi_world.specs.Requests.{Client, Sent, sent_with, operation, body}
use Rattle.wopi_world.specs.World.{Told}
use Rattle.wopi_world.specs.Talks.{Speaker, IsNoReply, does, hears, hears_all}
use Rattle.wopi_world.proofs.Waiting.{WaitsFor, stepped_waits}
use Rattle.wopi_ends.specs.Messages.{bytes_of}
use Rattle.wopi_ends.specs.Hearing.{Spoken, own, aside, exchange_of, exchanges_of, IsAsked, Ending, behind_all, at_bad, at_want, Hears, HasHeard, IsReplyHeard, ending_of, TellsAtEnd, IsTalkHeard, IsDriveHeard}
use Rattle.wopi_ends.specs.Hearing as hearing

pub operation_is : (contents : Option (List ℕ)) (asked : SessionOp) → operation (sent_with contents asked) ≡ asked
operation_is contents op.Info = refl
operation_is contents op.TakeLock = refl
operation_is contents op.Get = refl
operation_is contents (op.Put number) = refl
operation_is contents (op.Relock number) = refl
operation_is contents (op.Refresh number) = refl
operation_is contents (op.Unlock number) = refl

body_is : (contents : Option (List ℕ)) (asked : SessionOp) → body (sent_with contents asked) ≡ contents_with contents asked
body_is contents op.Info = refl
body_is contents op.TakeLock = refl
body_is contents op.Get = refl
body_is contents (op.Put number) = refl
body_is contents (op.Relock number) = refl
body_is contents (op.Refresh number) = refl
body_is contents (op.Unlock number) = refl

module _ (desktop : Desktop) (client : Client) where
  abbrev turn : Speaker → Input → Turn
  turn speaker input = stepped client.nonce speaker.session input

  abbrev sent_by : Speaker → Input → SessionOp → Sent
  sent_by speaker input asked = sent_with (turn speaker input).session.body asked

  -- the speaker that sent the operation
  abbrev having_sent : Speaker → Input → SessionOp → Speaker
  having_sent speaker input asked = does speaker (turn speaker input).session (Sends asked)

  hears-sends : (speaker : Speaker) (input : Input) (asked : SessionOp) → (turn speaker input).effect ≡ Sends asked → hears client speaker input ≡ having_sent speaker input asked
  hears-sends speaker input asked e = ap (λ (f : Effect). does speaker (turn speaker input).session f) e

  body_sent : (speaker : Speaker) (input : Input) (asked : SessionOp) → (turn speaker input).effect ≡ Sends asked → body_of (turn speaker input).session ≡ body (sent_by speaker input asked)
  body_sent speaker input asked e =
      let session = (turn speaker input).session in
      let w : WaitsFor (Sends asked) session = subst (λ (f : Effect). WaitsFor f session) e (stepped_waits client.nonce speaker.session input) in
      ap (λ (o : Option Waiting). body_while o session.body) w.1
      ∙ ap (contents_with session.body) w.2
      ∙ sym (body_is session.body asked)

  bytes_sent : (speaker : Speaker) (input : Input) (asked : SessionOp) (bytes : List ℕ) → Asks desktop client.nonce speaker.session input asked bytes →
      bytes ≡ bytes_of desktop client (sent_by speaker input asked)
  bytes_sent speaker input asked bytes asks =
      asks.bytes_are
      ∙ ap (λ (b : List ℕ). request_bytes desktop (op_of client.nonce asked) b) (body_sent speaker input asked asks.sends)
      ∙ ap (λ (o : SessionOp). request_bytes desktop (op_of client.nonce o) (body (sent_by speaker input asked))) (sym (operation_is (turn speaker input).session.body asked))

  -- the exchange of a request that was just sent
  asked_by : (speaker : Speaker) (input : Input) (asked : SessionOp) (exchange : Exchange) → Asks desktop client.nonce speaker.session input asked exchange.request →
      IsAsked desktop client (having_sent speaker input asked) (sent_by speaker input asked) exchange
  asked_by speaker input asked exchange asks =
      let session = (turn speaker input).session in
      let w : WaitsFor (Sends asked) session = subst (λ (f : Effect). WaitsFor f session) asks.sends (stepped_waits client.nonce speaker.session input) in
      record {
        awaits = record { waiting = w.0; waits = w.1; sent_is = ap (sent_with session.body) (sym w.2) };
        was_sent = Contains-push speaker.sent (sent_by speaker input asked);
        bytes = bytes_sent speaker input asked exchange.request asks;
      }

  -- what follows an input
  record Follows (speaker : Speaker) (input : Input) (exchanges : List Exchange) (left : State) (result : Result Outcome DriveFault) : Type 0 where
    told : List Told
    spoken : List Spoken
    heard : List Input
    goes : Hears desktop client (ending_of result) (hears client speaker input) spoken heard
    exchanges_are : exchanges_of spoken ≡ exchanges
    told_is : (hears_all client (hears client speaker input) heard).told ≡ speaker.told ++ told
    session_is : (hears_all client (hears client speaker input) heard).session ≡ left
    at_end : TellsAtEnd result told

  -- an exchange before the rest of a talk
  goes_on : (speaker : Speaker) (input next : Input) (asked : SessionOp) (exchange : Exchange) (later : List Exchange) (left : State) (result : Result Outcome DriveFault) →
      (turn speaker input).effect ≡ Sends asked →
      ((spoken : List Spoken) (heard : List Input) → Hears desktop client (ending_of result) (hears client (having_sent speaker input asked) next) spoken heard →
      Hears desktop client (ending_of result) (having_sent speaker input asked) (own (sent_by speaker input asked) exchange ∷ spoken) (next ∷ heard)) →
      Follows (having_sent speaker input asked) next later left result → Follows speaker input (exchange ∷ later) left result
  goes_on speaker input next asked exchange later left result sends step f =
      let is = hears-sends speaker input asked sends in
      let sent = sent_by speaker input asked in
      record {
        told = f.told;
        spoken = own sent exchange ∷ f.spoken;
        heard = next ∷ f.heard;
        goes = subst (λ (s : Speaker). Hears desktop client (ending_of result) s (own sent exchange ∷ f.spoken) (next ∷ f.heard)) (sym is) (step f.spoken f.heard f.goes);
        exchanges_are = ap (λ (l : List Exchange). exchange ∷ l) f.exchanges_are;
        told_is = ap (λ (s : Speaker). (hears_all client s (next ∷ f.heard)).told) is ∙ f.told_is;
        session_is = ap (λ (s : Speaker). (hears_all client s (next ∷ f.heard)).session) is ∙ f.session_is;
        at_end = f.at_end;
      }

  -- a talk that ends with a request of which nothing is heard
  stops : (speaker : Speaker) (input : Input) (asked : SessionOp) (spoken : List Spoken) (exchanges : List Exchange) (why : DriveFault) → (turn speaker input).effect ≡ Sends asked →
      Hears desktop client (ending_of (Err why)) (having_sent speaker input asked) spoken [] → exchanges_of spoken ≡ exchanges → Follows speaker input exchanges (after client.nonce speaker.session input) (Err why)
  stops speaker input asked spoken exchanges why sends goes are =
      let is = hears-sends speaker input asked sends in
      record {
        told = [];
        spoken = spoken;
        heard = [];
        goes = subst (λ (s : Speaker). Hears desktop client (ending_of (Err why)) s spoken []) (sym is) goes;
        exchanges_are = are;
        told_is = ap (λ (s : Speaker). s.told) is ∙ sym (append-nil speaker.told);
        session_is = ap (λ (s : Speaker). s.session) is;
        at_end = refl;
      }

  -- the same where the last reply tells no answer
  stops_at_bad : (speaker : Speaker) (input : Input) (asked : SessionOp) (bytes reply : List ℕ) (at : ℕ) → Asks desktop client.nonce speaker.session input asked bytes →
      IsBadAnswer (op_of client.nonce asked) reply at →
      Follows speaker input (record { request = bytes; reply = Some reply } ∷ []) (after client.nonce speaker.session input) (Err (BadReply at))
  stops_at_bad speaker input asked bytes reply at asks says =
      let exchange : Exchange = record { request = bytes; reply = Some reply } in
      let mid = having_sent speaker input asked in
      let sent = sent_by speaker input asked in
      let is_bad : IsBadAnswer (op_of client.nonce (operation sent)) reply at =
      subst (λ (o : SessionOp). IsBadAnswer (op_of client.nonce o) reply at) (sym (operation_is (turn speaker input).session.body asked)) says in
      stops speaker input asked (own sent exchange ∷ []) (exchange ∷ []) (BadReply at) asks.sends
      (hearing.bad mid sent exchange reply at (asked_by speaker input asked exchange asks) refl is_bad) refl

  -- and where memory for its answer was wanting
  stops_unread : (speaker : Speaker) (input : Input) (asked : SessionOp) (bytes reply : List ℕ) → Asks desktop client.nonce speaker.session input asked bytes →
      Follows speaker input (record { request = bytes; reply = Some reply } ∷ []) (after client.nonce speaker.session input) (Err Memory)
  stops_unread speaker input asked bytes reply asks =
      let exchange : Exchange = record { request = bytes; reply = Some reply } in
      let mid = having_sent speaker input asked in
      let sent = sent_by speaker input asked in
      stops speaker input asked (own sent exchange ∷ []) (exchange ∷ []) Memory asks.sends
      (hearing.unread mid sent exchange reply (asked_by speaker input asked exchange asks) refl) refl

  tells_answer : (speaker : Speaker) (input : Input) (asked : SessionOp) (reply : List ℕ) (answer : _) → TellsAnswer (op_of client.nonce asked) reply answer →
      TellsAnswer (op_of client.nonce (operation (sent_by speaker input asked))) reply answer
  tells_answer speaker input asked reply answer h =
      subst (λ (o : SessionOp). TellsAnswer (op_of client.nonce o) reply answer) (sym (operation_is (turn speaker input).session.body asked)) h

  follows : (speaker : Speaker) (session : State) → speaker.session ≡ session → (input : Input) (exchanges : List Exchange) (left : State) (result : Result Outcome DriveFault) →
      Talk desktop client.nonce session input exchanges left result → Follows speaker input exchanges left result
  follows speaker session same input [] left result (tells _ _ outcome e) =
      let effect : (turn speaker input).effect ≡ Tells outcome = ap (λ (s : State). (stepped client.nonce s input).effect) same ∙ e in
      let is : hears client speaker input ≡ does speaker (turn speaker input).session (Tells outcome) = ap (λ (f : Effect). does speaker (turn speaker input).session f) effect in
      let one : Told = record { number = (turn speaker input).session.number; outcome = outcome; contents = (unwrap_or (turn speaker input).session.contents []); saved = body_of speaker.session } in
      record {
        told = one ∷ [];
        spoken = [];
        heard = [];
        goes = hearing.over (hears client speaker input);
        exchanges_are = refl;
        told_is = ap (λ (s : Speaker). s.told) is;
        session_is = ap (λ (s : Speaker). s.session) is ∙ ap (λ (s : State). (stepped client.nonce s input).session) same;
        at_end = (one, refl, refl);
      }
  follows speaker session same input [] left result (ignores _ _ other e) =
      let effect : (turn speaker input).effect ≡ Ignores other = ap (λ (s : State). (stepped client.nonce s input).effect) same ∙ e in
      let is : hears client speaker input ≡ speaker = ap (λ (f : Effect). does speaker (turn speaker input).session f) effect in
      record {
        told = [];
        spoken = [];
        heard = [];
        goes = hearing.over (hears client speaker input);
        exchanges_are = refl;
        told_is = ap (λ (s : Speaker). s.told) is ∙ sym (append-nil speaker.told);
        session_is = ap (λ (s : Speaker). s.session) is ∙ sym (stepped_leaves speaker.session client.nonce input other effect).1 ∙ ap (λ (s : State). (stepped client.nonce s input).session) same;
        at_end = refl;
      }
  follows speaker session same input [] left result (unsent _ _ asked e) =
      let effect : (turn speaker input).effect ≡ Sends asked = ap (λ (s : State). (stepped client.nonce s input).effect) same ∙ e in
      subst (λ (s : State). Follows speaker input [] (after client.nonce s input) result) same
      (stops speaker input asked [] [] Memory effect (hearing.unsent (having_sent speaker input asked)) refl)
  follows speaker session same input (exchange ∷ later) left result (lost _ _ asked bytes _ _ _ asks more) =
      let one : Exchange = record { request = bytes; reply = None } in
      let own_asks = subst (λ (s : State). Asks desktop client.nonce s input asked bytes) (sym same) asks in
      let mid = having_sent speaker input asked in
      goes_on speaker input NoAnswer asked one later left result own_asks.sends
      (λ spoken heard h. hearing.lost (ending_of result) mid (sent_by speaker input asked) one spoken heard (asked_by speaker input asked one own_asks) refl h)
      (follows mid (after client.nonce session input) (ap (λ (s : State). (stepped client.nonce s input).session) same) NoAnswer later left result more)
  follows speaker session same input (exchange ∷ later) left result (answered _ _ asked bytes reply answer _ _ _ asks says more) =
      let one : Exchange = record { request = bytes; reply = Some reply } in
      let own_asks = subst (λ (s : State). Asks desktop client.nonce s input asked bytes) (sym same) asks in
      let mid = having_sent speaker input asked in
      goes_on speaker input (Reply answer) asked one later left result own_asks.sends
      (λ spoken heard h. hearing.answered (ending_of result) mid (sent_by speaker input asked) one reply answer spoken heard (asked_by speaker input asked one own_asks) refl (tells_answer speaker input asked reply answer says) h)
      (follows mid (after client.nonce session input) (ap (λ (s : State). (stepped client.nonce s input).session) same) (Reply answer) later left result more)
  follows speaker session same input exchanges left result (bad _ _ asked bytes reply at asks says) =
      subst (λ (s : State). Follows speaker input exchanges (after client.nonce s input) result) same
      (stops_at_bad speaker input asked bytes reply at (subst (λ (s : State). Asks desktop client.nonce s input asked bytes) (sym same) asks) says)
  follows speaker session same input exchanges left result (unread _ _ asked bytes reply asks) =
      subst (λ (s : State). Follows speaker input exchanges (after client.nonce s input) result) same
      (stops_unread speaker input asked bytes reply (subst (λ (s : State). Asks desktop client.nonce s input asked bytes) (sym same) asks))

pub talk_heard : (desktop : Desktop) (client : Client) (speaker : Speaker) (input : Input) (exchanges : List Exchange) (left : State) (result : Result Outcome DriveFault) → IsNoReply input →
    Talk desktop client.nonce speaker.session input exchanges left result → IsTalkHeard desktop client speaker exchanges left result
talk_heard desktop client speaker input exchanges left result none talk =
    let f = follows desktop client speaker speaker.session refl input exchanges left result talk in
    record {
      told = f.told;
      has = record {
        spoken = f.spoken;
        heard = input ∷ f.heard;
        heard_is = hearing.prompted (ending_of result) speaker input f.spoken f.heard none f.goes;
        exchanges_are = f.exchanges_are;
        told_is = f.told_is;
      };
      session_is = f.session_is;
      at_end = f.at_end;
    }

-- one after another

pub hears-append : (client : Client) (speaker : Speaker) (first second : List Input) → hears_all client speaker (first ++ second) ≡ hears_all client (hears_all client speaker first) second
hears-append client speaker [] second = refl
hears-append client speaker (input ∷ first) second = hears-append client (hears client speaker input) first second

pub exchanges-append : (first second : List Spoken) → exchanges_of (first ++ second) ≡ exchanges_of first ++ exchanges_of second
exchanges-append [] second = refl
exchanges-append (one ∷ first) second = ap (λ (l : List Exchange). exchange_of one ∷ l) (exchanges-append first second)

module _ (desktop : Desktop) (client : Client) where
  pub hear-append : (ending : Ending) (speaker : Speaker) (first second : List Spoken) (heard more : List Input) → Hears desktop client behind_all speaker first heard →
      Hears desktop client ending (hears_all client speaker heard) second more → Hears desktop client ending speaker (first ++ second) (heard ++ more)
  hear-append ending speaker [] second [] more (hearing.over _) h = h
  hear-append ending speaker first second (input ∷ heard) more (hearing.prompted _ _ _ _ _ none rest) h =
      hearing.prompted ending speaker input (first ++ second) (heard ++ more) none (hear-append ending (hears client speaker input) first second heard more rest h)
  hear-append ending speaker (one ∷ first) second (input ∷ heard) more (hearing.answered _ _ sent exchange reply answer _ _ asked is says rest) h =
      hearing.answered ending speaker sent exchange reply answer (first ++ second) (heard ++ more) asked is says
      (hear-append ending (hears client speaker (Reply answer)) first second heard more rest h)
  hear-append ending speaker (one ∷ first) second (input ∷ heard) more (hearing.lost _ _ sent exchange _ _ asked is rest) h =
      hearing.lost ending speaker sent exchange (first ++ second) (heard ++ more) asked is (hear-append ending (hears client speaker NoAnswer) first second heard more rest h)
  hear-append ending speaker (one ∷ first) second heard more (hearing.copied _ _ name text exchange _ _ is rest) h =
      hearing.copied ending speaker name text exchange (first ++ second) (heard ++ more) is (hear-append ending speaker first second heard more rest h)

  abbrev pub joined : (ending : Ending) (speaker : Speaker) (first second : List Exchange) (told more : List Told) (h : HasHeard desktop client behind_all speaker first told) →
      HasHeard desktop client ending (hears_all client speaker h.heard) second more → HasHeard desktop client ending speaker (first ++ second) (told ++ more)
  joined ending speaker first second told more h g =
      record {
        spoken = h.spoken ++ g.spoken;
        heard = h.heard ++ g.heard;
        heard_is = hear-append ending speaker h.spoken g.spoken h.heard g.heard h.heard_is g.heard_is;
        exchanges_are = exchanges-append h.spoken g.spoken ∙ ap (λ (l : List Exchange). l ++ exchanges_of g.spoken) h.exchanges_are ∙ ap (λ (l : List Exchange). first ++ l) g.exchanges_are;
        told_is = ap (λ (s : Speaker). s.told) (hears-append client speaker h.heard g.heard) ∙ g.told_is
            ∙ ap (λ (l : List Told). l ++ more) h.told_is ∙ append_assoc speaker.told told more;
      }

  -- a hearing that ends behind all
  abbrev pub to_the_end : (ending : Ending) (speaker : Speaker) (exchanges : List Exchange) (told : List Told) → HasHeard desktop client ending speaker exchanges told →
      ending ≡ behind_all → HasHeard desktop client behind_all speaker exchanges told
  to_the_end ending speaker exchanges told h is =
      record {
        spoken = h.spoken;
        heard = h.heard;
        heard_is = subst (λ (e : Ending). Hears desktop client e speaker h.spoken h.heard) is h.heard_is;
        exchanges_are = h.exchanges_are;
        told_is = h.told_is;
      }

  -- what is heard of the rest is heard of all
  later_heard : (input : Input) (heard : List Input) (spoken : List Spoken) → AllByRecursion (IsReplyHeard client heard) spoken → AllByRecursion (IsReplyHeard client (input ∷ heard)) spoken
  later_heard input heard [] h = tt
  later_heard input heard (own sent exchange ∷ spoken) h =
      ((λ reply is. let k = h.0 reply is in (k.0, Contains-append_right (input ∷ []) heard (Reply k.0) k.1, k.2)), later_heard input heard spoken h.1)
  later_heard input heard (aside exchange ∷ spoken) h = (tt, later_heard input heard spoken h.1)

  -- no reply is passed over
  pub all_heard : (speaker : Speaker) (spoken : List Spoken) (heard : List Input) → Hears desktop client behind_all speaker spoken heard →
      AllByRecursion (IsReplyHeard client heard) spoken
  all_heard speaker [] [] (hearing.over _) = tt
  all_heard speaker spoken (input ∷ heard) (hearing.prompted _ _ _ _ _ none rest) = later_heard input heard spoken (all_heard (hears client speaker input) spoken heard rest)
  all_heard speaker (one ∷ spoken) (input ∷ heard) (hearing.answered _ _ sent exchange reply answer _ _ asked is says rest) = (
    (λ other other_is.
        let both : Some reply ≡ Some other = sym is ∙ other_is in
        let same : reply ≡ other = cc in (
          answer,
          Contains-append_left (Reply answer ∷ []) heard (Reply answer) (Contains-push [] (Reply answer)),
          subst (λ (b : List ℕ). TellsAnswer (op_of client.nonce (operation sent)) b answer) same says,
        )),
    later_heard (Reply answer) heard spoken (all_heard (hears client speaker (Reply answer)) spoken heard rest),
  )
  all_heard speaker (one ∷ spoken) (input ∷ heard) (hearing.lost _ _ sent exchange _ _ asked is rest) = (
    (λ other other_is. let bad : None ≡ Some other = sym is ∙ other_is in cc),
    later_heard NoAnswer heard spoken (all_heard (hears client speaker NoAnswer) spoken heard rest),
  )
  all_heard speaker (one ∷ spoken) heard (hearing.copied _ _ name text exchange _ _ is rest) = (tt, all_heard speaker spoken heard rest)

  at_end_err : (result : Result Outcome DriveFault) (why : DriveFault) (told : List Told) → result ≡ Err why → TellsAtEnd (Err why) told → TellsAtEnd result told
  at_end_err result why told is h = subst (λ (r : Result Outcome DriveFault). TellsAtEnd r told) (sym is) h

  pub drive_heard : (speaker : Speaker) (input : Input) (left : State) (result : Result Outcome DriveFault) (exchanges : List Exchange) → IsNoReply input →
      Drive desktop client.nonce speaker.session input left result exchanges → IsDriveHeard desktop client speaker exchanges left result
  drive_heard speaker input left result exchanges none (of_drive.free _ calm talk) =
      let h = talk_heard desktop client speaker input exchanges left result none talk in
      record { before = []; last = h.told; has = h.has; session_is = h.session_is; at_end = h.at_end }
  drive_heard speaker input left result exchanges none (of_drive.settled waiting first second mid outcome waits talk next) =
      let h = talk_heard desktop client speaker NoAnswer first mid (Ok outcome) tt talk in
      let later = hears_all client speaker h.has.heard in
      let g = talk_heard desktop client later input second left result none
      (subst (λ (s : State). Talk desktop client.nonce s input second left result) (sym h.session_is) next) in
      record {
        before = h.told;
        last = g.told;
        has = joined (ending_of result) speaker first second h.told g.told h.has g.has;
        session_is = ap (λ (s : Speaker). s.session) (hears-append client speaker h.has.heard g.has.heard) ∙ g.session_is;
        at_end = g.at_end;
      }
  drive_heard speaker input left result exchanges none (of_drive.unsettled waiting _ why waits is talk) =
      let h = talk_heard desktop client speaker NoAnswer exchanges left (Err why) tt talk in
      record {
        before = [];
        last = h.told;
        has = record {
          spoken = h.has.spoken;
          heard = h.has.heard;
          heard_is = subst (λ (r : Result Outcome DriveFault). Hears desktop client (ending_of r) speaker h.has.spoken h.has.heard) (sym is) h.has.heard_is;
          exchanges_are = h.has.exchanges_are;
          told_is = h.has.told_is;
        };
        session_is = h.session_is;
        at_end = at_end_err result why h.told is h.at_end;
      }
