-- The induction: whatever order is true of time, what happens beside a session keeps what holds of it.
use Rattle.std.proofs.Common.{◌≡◌, ◌≢◌, ◌⊎◌, ℕ, ◌+◌, ◌<◌, ◌==◌, max, Bool, true, false, cond, if◌then◌else◌, List, [], ◌∷◌, ◌++◌, length, map, Option, None, Some, refl, sym, ap, subst, ◌∙◌, inl, inr, arith}
use Rattle.std.proofs.lemmas.Bool.{eqb-false}
use Rattle.std.proofs.lemmas.List.{append_assoc, append-nil}
use Rattle.std.specs.Str.{bytes_eq}
use Rattle.std.specs.List.{Contains}
use Rattle.wopi_text.specs.declared.lock_field.LockField.{LockField}
use Rattle.wopi_text.specs.declared.reason.Reason.TheVariants.{Changed}
use Rattle.wopi_model.specs.declared.calls.Act.{Act}
use Rattle.wopi_model.specs.declared.calls.Act.TheVariants as act
use Rattle.wopi_model.specs.declared.calls.Call.{Call}
use Rattle.wopi_model.specs.declared.calls.Ruling.{Ruling}
use Rattle.wopi_model.specs.declared.locks.Spent.{Spent}
use Rattle.wopi_model.specs.File.{opened_with}
use Rattle.wopi_model.specs.Host.{LegalHost, part_of, opening_of}
use Rattle.wopi_model.specs.Safety.{Presents, IsSpentUntil}
use Rattle.wopi_model.specs.Step.{bare}
use Rattle.wopi_model.specs.Shard.{Shard, Opening, Tick, Step, Entry, opened_shard, opening_file, at_moment}
use Rattle.wopi_model.specs.Shard as run
use Rattle.wopi_headers.specs.declared.answer.Answer.{Answer}
use Rattle.wopi_acts.specs.Answers.{ruling_told}
use Rattle.save_session.specs.LockIds.{lock_id}
use Rattle.save_session.specs.declared.input.Input.{Input}
use Rattle.save_session.specs.declared.input.Input.TheVariants as input
use Rattle.save_session.specs.declared.output.Outcome.{Outcome}
use Rattle.save_session.specs.declared.state.SessionOp.{SessionOp}
use Rattle.save_session.specs.declared.state.SessionOp.TheVariants as op
use Rattle.save_session.specs.declared.state.State.{State}
use Rattle.save_session.specs.declared.state.Waiting.{Waiting}
use Rattle.save_session.specs.declared.state.Effect.{Effect}
use Rattle.save_session.specs.declared.state.Effect.TheVariants.{Sends, Tells, Ignores}
use Rattle.save_session.specs.declared.state.Turn.{Turn}
use Rattle.save_session.specs.Session.{stepped, body_of}
use Rattle.wopi_world.specs.History.{Item, Ran, Restarted, IsAllowed, Along, happens, after}
use Rattle.wopi_world.specs.Requests.{Client, Start, Read, Save, Refresh, Close, Sent, Info, TakeLock, Get, Put, Relock, RefreshLock, Unlock, sent_with, act_sent, call_of, look_of}
use Rattle.wopi_world.specs.World.{Told}
use Rattle.wopi_world.specs.Safe.{IsSave, SavesAreOrdered}
use Rattle.wopi_world.specs.Sessions.{IsDead}
use Rattle.wopi_world.specs.Talks.{IsSameText, id_in, LooksSame, Speaker, first_speaker, does, turns, hears, hears_all, told_by, Awaits, Came, changed_by, IsNoReply, IsOfOthers, TalksOver, ends, prompted, answered, refused, arrives, looked, passes, IsTalkOver, RestartsLater, IsSafeFor}
use Rattle.wopi_world.proofs.Seeing.{IsSameEffect, IsSameTurn, names_same, answered_same, unasked_same, faulted_same}
use Rattle.wopi_world.proofs.Held.{WasHeld, held_id, own_number, under-settled, gone-settled}
use Rattle.wopi_world.proofs.Acting.{IsReady, by_other, by_session}
use Rattle.wopi_world.proofs.Moving.{own_file, HasMark, ComesAt}
use Rattle.wopi_world.proofs.Ids.{keeps_ids}
use Rattle.wopi_world.proofs.Lists.{get_new}
use Rattle.wopi_world.proofs.OneRun.{WasUsed}
use Rattle.wopi_world.proofs.Positions.{Along-split, rising_lem, replaced_lem, over_lem, upon_save_lem, first_save_at}
use Rattle.wopi_world.proofs.Machine.{WasHeldIn, ReplyHolds, OutcomeHolds, OutputHolds, TurnHolds, asked_holds, answered_holds, unanswered_holds}
use Rattle.wopi_world.proofs.Growing.{OpenedWith, Holds, holds-push, holds-came, holds-send, holds-tell}
use Rattle.wopi_world.proofs.Replying.{reply_to_lock, reply_to_relock, conflict_with_next, reply_to_get}

was_held-at_moment : (client : Client) (j : ℕ) (shard : Shard) (moment : ℕ) → WasHeldIn client j shard →
    WasHeld client j (max shard.now moment) (own_file client (at_moment shard moment)) ⊎ IsDead client shard
was_held-at_moment client j shard moment (inl u) =
    elim (under-settled client j shard.now (max shard.now moment) (own_file client shard) (omega arith) u) [
      | inl still ↦ inl (inl still.0)
      | inr over ↦ let counted = u.counted in inl (inr (over.1.all j counted (omega arith)))
    ]
was_held-at_moment client j shard moment (inr (inl gone)) = inl (inr (gone-settled client j shard.now (max shard.now moment) (own_file client shard) (omega arith) gone))
was_held-at_moment client j shard moment (inr (inr dead)) = inr dead

put_of_act : (client : Client) (op : Sent) (j : ℕ) (d : List ℕ) → act_sent client.nonce op ≡ act.Put (Some (lock_id client.nonce j)) d → op ≡ Put j d
put_of_act client Info j d h = cc
put_of_act client TakeLock j d h = cc
put_of_act client Get j d h = cc
put_of_act client (Put i c) j d h =
    let ids : lock_id client.nonce i ≡ lock_id client.nonce j = cc in
    let numbers = own_number client i j ids in
    let contents : c ≡ d = cc in
    cc
put_of_act client (Relock i) j d h = cc
put_of_act client (RefreshLock i) j d h = cc
put_of_act client (Unlock i) j d h = cc

-- a Put of the session is made under an id that was held
ready : (client : Client) (shard : Shard) (sent : Sent) (moment : ℕ) →
    ((j : ℕ) (d : List ℕ) → sent ≡ Put j d → WasHeldIn client j shard) →
    IsReady client (max shard.now moment) (own_file client (at_moment shard moment)) sent ⊎ IsDead client shard
ready client shard Info moment held = inl tt
ready client shard TakeLock moment held = inl tt
ready client shard Get moment held = inl tt
ready client shard (Put j d) moment held = was_held-at_moment client j shard moment (held j d refl)
ready client shard (Relock j) moment held = inl tt
ready client shard (RefreshLock j) moment held = inl tt
ready client shard (Unlock j) moment held = inl tt

bare_holds : (client : Client) (start shard : Shard) (history : List Item) (sent : Sent) (status : ℕ) → status ≢ 200 → status ≢ 409 → ReplyHolds client start shard history sent (bare status)
bare_holds client start shard history Info status a b = tt
bare_holds client start shard history TakeLock status a b = λ e. absurd (a e)
bare_holds client start shard history Get status a b = λ e. absurd (a e)
bare_holds client start shard history (Put j d) status a b = λ e. absurd (a e)
bare_holds client start shard history (Relock j) status a b = (λ e. absurd (a e), λ e n. absurd (b e))
bare_holds client start shard history (RefreshLock j) status a b = tt
bare_holds client start shard history (Unlock j) status a b = tt

-- the ruling with another lock field
abbrev with_lock : Ruling → LockField → Ruling
with_lock ruling lock = record ruling { lock = lock }

-- a reply whose lock field has the same id holds as well
reply_with_lock : (client : Client) (start shard : Shard) (history : List Item) (sent : Sent) (ruling : Ruling) (lock : LockField) →
    (ruling.status ≡ 409 → id_in lock ≡ id_in ruling.lock) → ReplyHolds client start shard history sent ruling → ReplyHolds client start shard history sent (with_lock ruling lock)
reply_with_lock client start shard history Info ruling lock same h = h
reply_with_lock client start shard history TakeLock ruling lock same h = h
reply_with_lock client start shard history Get ruling lock same h = h
reply_with_lock client start shard history (Put j d) ruling lock same h = h
reply_with_lock client start shard history (Relock j) ruling lock same h =
    (h.0, λ conflict named. h.1 conflict (sym (names_same lock ruling.lock (lock_id client.nonce (j + 1)) (same conflict)) ∙ named))
reply_with_lock client start shard history (RefreshLock j) ruling lock same h = h
reply_with_lock client start shard history (Unlock j) ruling lock same h = h

text_with_lock : (asked : SessionOp) (answer : Answer) (ruling : Ruling) (lock : LockField) → IsSameText asked answer (ruling_told ruling) → IsSameText asked answer (ruling_told (with_lock ruling lock))
text_with_lock op.Info answer ruling lock h = h
text_with_lock op.TakeLock answer ruling lock h = h
text_with_lock op.Get answer ruling lock h = h
text_with_lock (op.Put number) answer ruling lock h = h
text_with_lock (op.Relock number) answer ruling lock h = h
text_with_lock (op.Refresh number) answer ruling lock h = h
text_with_lock (op.Unlock number) answer ruling lock h = h

-- and an answer looks like what tells it with the answer's own lock field
looks_with_lock : (asked : SessionOp) (answer : Answer) (ruling : Ruling) → LooksSame asked answer (ruling_told ruling) → LooksSame asked answer (ruling_told (with_lock ruling answer.lock))
looks_with_lock asked answer ruling h =
    record { status = h.status; lock = λ conflict. refl; reason = h.reason; text = λ ok. text_with_lock asked answer ruling answer.lock (h.text ok) }

contains_none : {T : Type 0} (x : T) → Contains [] x → ⊥
contains_none x h = absurd (omega (arith, h.1))

-- at the opening

unlocked : (number : ℕ) (opening : Opening) (name : List ℕ) → (opening_file number opening name).lock ≡ None
unlocked number [] name = refl
unlocked number (first ∷ rest) name =
    elim (bytes_eq first.0 name) as (λ b. (cond b (opened_with number first.1) (opening_file number rest name)).lock ≡ None) [ true ↦ refl | false ↦ unlocked number rest name ]

unspent : (number : ℕ) (opening : Opening) (name : List ℕ) → (opening_file number opening name).spent ≡ []
unspent number [] name = refl
unspent number (first ∷ rest) name =
    elim (bytes_eq first.0 name) as (λ b. (cond b (opened_with number first.1) (opening_file number rest name)).spent ≡ []) [ true ↦ refl | false ↦ unspent number rest name ]

unmarked : (client : Client) (number : ℕ) (opening : Opening) → HasMark client (opening_file number opening client.token.file) → ⊥
unmarked client number opening (j, inl held) =
    let bad : None ≡ Some (lock_id client.nonce j) = sym (ap held_id (unlocked number opening client.token.file)) ∙ held in cc
unmarked client number opening (j, inr spent) =
    subst (λ (l : List Spent). IsSpentUntil l (lock_id client.nonce j) client.token.expires) (unspent number opening client.token.file) spent

first_holds : (opening : Opening) (opened first : ℕ) (client : Client) →
    Holds client (opened_shard opening opened first) (opened_shard opening opened first) [] first_speaker []
first_holds opening opened first client =
    let none = unlocked first opening client.token.file in
    record {
      ground = record {
        is_after = refl;
        moved = tt;
        staged = record {
          stage = inr (λ number e. let bad : None ≡ Some (lock_id client.nonce number) = sym (ap held_id none) ∙ e in cc);
          there = λ lock e. let bad : None ≡ Some lock = sym none ∙ e in cc;
          dead = λ d. λ number e. let bad : None ≡ Some (lock_id client.nonce number) = sym (ap held_id none) ∙ e in cc;
          opened = omega arith;
        };
        used = λ mark. absurd (unmarked client first opening mark);
      };
      knows = record {
        ops = λ op sent. absurd (contains_none op sent);
        same = λ j c d a b. absurd (contains_none (Put j c) a);
        phase = refl;
        waits = λ w e. cc;
      };
      saves_sent = tt;
      came_holds = λ one there. absurd (contains_none one there);
      told_holds = λ place one e. cc;
      first = tt;
    }

-- what holds of the session makes its saves ordered

ordered : (client : Client) (start shard : Shard) (history : List Item) (speaker : Speaker) (came : List Came) → Holds client start shard history speaker came →
    SavesAreOrdered client speaker.told start history
ordered client start shard history speaker came h =
    let moved = h.ground.moved in
    record {
      rising = λ first middle last p q i j c d e a b. rising_lem client start first middle last p q i j c d (rw e moved) a b;
      replaced = λ first middle last p q i c e a keeps differs.
          let sent : Along (λ at item. (j : ℕ) (d : List ℕ) → IsSave client j d item → Contains speaker.sent (Put j d)) start (first ++ (p ∷ (middle ++ q ∷ last))) = rw e h.saves_sent in
          let here = Along-split (λ at item. (j : ℕ) (d : List ℕ) → IsSave client j d item → Contains speaker.sent (Put j d)) start first (p ∷ (middle ++ q ∷ last)) sent in
          let there = Along-split (λ at item. (j : ℕ) (d : List ℕ) → IsSave client j d item → Contains speaker.sent (Put j d)) (happens (after start first) p) middle (q ∷ last) here.1 in
          replaced_lem client start first middle last p q i c (rw e moved) (λ d b. h.knows.same i c d (here.0 i c a) (there.0 i d b)) a keeps differs;
      over = λ first last p e end. over_lem client start first last p (rw e moved) end;
      acknowledged = λ place one version e saved. subst (OutcomeHolds client start shard history one.number one.saved one.contents) saved (h.told_holds place one e);
      upon_save = λ first middle last p q i j c d e a none b. upon_save_lem client start first middle last p q i j c d (rw e moved) a none b;
      upon_open = λ first last q j d e none b. first_save_at client (OpenedWith client speaker.told) start first last q j d (rw e h.first) none b;
    }

module _ (client : Client) (start : Shard) where
  -- turns

  kept-does : (shard : Shard) (history : List Item) (speaker : Speaker) (came : List Came) (session : State) (effect : Effect) → Holds client start shard history speaker came →
      OutputHolds client start shard history (Contains speaker.sent) speaker.told (body_of speaker.session) session effect → Holds client start shard history (does speaker session effect) came
  kept-does shard history speaker came session (Sends asked) h o = holds-send client start shard history speaker came session (sent_with session.body asked) h o
  kept-does shard history speaker came session (Tells outcome) h o = holds-tell client start shard history speaker came (body_of speaker.session) session outcome h o
  kept-does shard history speaker came session (Ignores given) h o = h

  output_same : (shard : Shard) (history : List Item) (sent : Sent → Type 0) (speaker : Speaker) (one other : State) (effect effect' : Effect) → one ≡ other → IsSameEffect effect effect' →
      OutputHolds client start shard history sent speaker.told (body_of speaker.session) other effect' → OutputHolds client start shard history sent speaker.told (body_of speaker.session) one effect
  output_same shard history sent speaker one other (Sends asked) (Sends asked') e f h =
      subst (λ (s : State). OutputHolds client start shard history sent speaker.told (body_of speaker.session) s (Sends asked)) (sym e)
      (subst (λ (o : SessionOp). OutputHolds client start shard history sent speaker.told (body_of speaker.session) other (Sends o)) (sym f) h)
  output_same shard history sent speaker one other (Sends asked) (Tells told) e f h = absurd f
  output_same shard history sent speaker one other (Sends asked) (Ignores given) e f h = absurd f
  output_same shard history sent speaker one other (Tells told) (Sends asked) e f h = absurd f
  output_same shard history sent speaker one other (Tells told) (Tells told') e f h =
      subst (λ (s : State). OutputHolds client start shard history sent speaker.told (body_of speaker.session) s (Tells told)) (sym e)
      (subst (λ (o : Outcome). OutputHolds client start shard history sent speaker.told (body_of speaker.session) other (Tells o)) (sym f) h)
  output_same shard history sent speaker one other (Tells told) (Ignores given) e f h = absurd f
  output_same shard history sent speaker one other (Ignores given) (Sends asked) e f h = absurd f
  output_same shard history sent speaker one other (Ignores given) (Tells told) e f h = absurd f
  output_same shard history sent speaker one other (Ignores given) (Ignores given') e f h = tt

  kept-turns : (shard : Shard) (history : List Item) (speaker : Speaker) (came : List Came) (turn other : Turn) → Holds client start shard history speaker came → IsSameTurn turn other →
      TurnHolds client start shard history (Contains speaker.sent) speaker.told (body_of speaker.session) other → Holds client start shard history (turns speaker turn) came
  kept-turns shard history speaker came turn other h same holds =
      kept-does shard history speaker came turn.session turn.effect h
      (output_same shard history (Contains speaker.sent) speaker turn.session other.session turn.effect other.effect same.session same.effect holds)

  -- inputs

  kept-asked : (shard : Shard) (history : List Item) (speaker : Speaker) (came : List Came) (given : Input) → Holds client start shard history speaker came → IsNoReply given →
      Holds client start shard history (hears client speaker given) came
  kept-asked shard history speaker came input.Start h none =
      let turn = stepped client.nonce speaker.session input.Start in
      kept-does shard history speaker came turn.session turn.effect h
      (asked_holds client start shard history (Contains speaker.sent) speaker.told (body_of speaker.session) speaker.session h.knows Start)
  kept-asked shard history speaker came input.Read h none =
      let turn = stepped client.nonce speaker.session input.Read in
      kept-does shard history speaker came turn.session turn.effect h
      (asked_holds client start shard history (Contains speaker.sent) speaker.told (body_of speaker.session) speaker.session h.knows Read)
  kept-asked shard history speaker came (input.Save contents) h none =
      let turn = stepped client.nonce speaker.session (input.Save contents) in
      kept-does shard history speaker came turn.session turn.effect h
      (asked_holds client start shard history (Contains speaker.sent) speaker.told (body_of speaker.session) speaker.session h.knows (Save contents))
  kept-asked shard history speaker came input.Refresh h none =
      let turn = stepped client.nonce speaker.session input.Refresh in
      kept-does shard history speaker came turn.session turn.effect h
      (asked_holds client start shard history (Contains speaker.sent) speaker.told (body_of speaker.session) speaker.session h.knows Refresh)
  kept-asked shard history speaker came input.Close h none =
      let turn = stepped client.nonce speaker.session input.Close in
      kept-does shard history speaker came turn.session turn.effect h
      (asked_holds client start shard history (Contains speaker.sent) speaker.told (body_of speaker.session) speaker.session h.knows Close)
  kept-asked shard history speaker came (input.Reply answer) h none = absurd none
  kept-asked shard history speaker came input.NoAnswer h none =
      let turn = stepped client.nonce speaker.session input.NoAnswer in
      kept-does shard history speaker came turn.session turn.effect h
      (unanswered_holds client start shard history (Contains speaker.sent) speaker.told (body_of speaker.session) speaker.session h.knows)

  -- an answer that looks like the one that tells a ruling which holds
  kept-told : (shard : Shard) (history : List Item) (speaker : Speaker) (came : List Came) (answer : Answer) (ruling : Ruling) → Holds client start shard history speaker came →
      ((w : Waiting) → speaker.session.waits ≡ Some w →
      ReplyHolds client start shard history (sent_with speaker.session.body w.op) ruling
      × IsSameTurn (stepped client.nonce speaker.session (input.Reply answer)) (stepped client.nonce speaker.session (input.Reply (ruling_told ruling)))) →
      Holds client start shard history (hears client speaker (input.Reply answer)) came
  kept-told shard history speaker came answer ruling h f =
      kept-turns shard history speaker came (stepped client.nonce speaker.session (input.Reply answer)) (stepped client.nonce speaker.session (input.Reply (ruling_told ruling))) h
      (same speaker.session.waits refl)
      (answered_holds client start shard history (Contains speaker.sent) speaker.told (body_of speaker.session) speaker.session h.knows ruling (λ w e. (f w e).0) refl)
    where
      same : (waits : Option Waiting) → speaker.session.waits ≡ waits →
          IsSameTurn (stepped client.nonce speaker.session (input.Reply answer)) (stepped client.nonce speaker.session (input.Reply (ruling_told ruling)))
      same None e = unasked_same client.nonce speaker.session answer (ruling_told ruling) e
      same (Some w) e = (f w e).1

  kept-answered : (shard : Shard) (history : List Item) (speaker : Speaker) (came : List Came) (one : Came) (awaits : Awaits speaker one.sent) (answer : Answer) →
      Holds client start shard history speaker came → Contains came one → LooksSame awaits.waiting.op answer (ruling_told one.ruling) →
      Holds client start shard history (hears client speaker (input.Reply answer)) came
  kept-answered shard history speaker came one awaits answer h there looks =
      kept-told shard history speaker came answer (with_lock one.ruling answer.lock) h (λ w e.
      let both : Some awaits.waiting ≡ Some w = sym awaits.waits ∙ e in
      let same : awaits.waiting ≡ w = cc in
      let lock = λ (conflict : one.ruling.status ≡ 409). looks.lock (looks.status ∙ conflict) in (
        reply_with_lock client start shard history (sent_with speaker.session.body w.op) one.ruling answer.lock lock
            (subst (λ (x : Sent). ReplyHolds client start shard history x one.ruling) (awaits.sent_is ∙ ap (λ (x : Waiting). sent_with speaker.session.body x.op) same) (h.came_holds one there)),
        answered_same client.nonce speaker.session w answer (ruling_told (with_lock one.ruling answer.lock)) e
            (subst (λ (x : Waiting). LooksSame x.op answer (ruling_told (with_lock one.ruling answer.lock))) same (looks_with_lock awaits.waiting.op answer one.ruling looks)) (λ conflict. refl),
      ))

  kept-refused : (shard : Shard) (history : List Item) (speaker : Speaker) (came : List Came) (answer : Answer) → Holds client start shard history speaker came →
      answer.status ≢ 200 → answer.status ≢ 409 → Holds client start shard history (hears client speaker (input.Reply answer)) came
  kept-refused shard history speaker came answer h ok conflict =
      kept-told shard history speaker came answer (bare answer.status) h (λ w e. (
        bare_holds client start shard history (sent_with speaker.session.body w.op) answer.status ok conflict,
        faulted_same client.nonce speaker.session w answer e ok conflict,
      ))

  -- items

  others_comes : (shard : Shard) (item : Item) → IsOfOthers client item → IsAllowed shard item →
      ((moment first : ℕ) → item ≡ Restarted moment first → HasMark client (own_file client shard) → client.token.issued < moment) → ComesAt client shard item
  others_comes shard (Ran (Tick moment)) other allowed later = tt
  others_comes shard (Ran (Step entry)) other allowed later = inl (by_other other)
  others_comes shard (Restarted moment first) other allowed later = (allowed, later moment first refl)

  others_save : (item : Item) → IsOfOthers client item → (j : ℕ) (d : List ℕ) → IsSave client j d item → ⊥
  others_save (Ran (Tick moment)) other j d save = save
  others_save (Ran (Step entry)) other j d save = other save.0 j (subst (λ (a : Act). Presents a (lock_id client.nonce j)) (sym save.1) refl)
  others_save (Restarted moment first) other j d save = save

  kept-passes : (shard : Shard) (history : List Item) (speaker : Speaker) (came : List Came) (item : Item) → Holds client start shard history speaker came → IsOfOthers client item → IsAllowed shard item →
      ((moment first : ℕ) → item ≡ Restarted moment first → HasMark client (own_file client shard) → client.token.issued < moment) →
      Holds client start (happens shard item) (history ++ item ∷ []) speaker came
  kept-passes shard history speaker came item h other allowed later =
      holds-push client start shard history speaker came item h allowed (others_comes shard item other allowed later)
      (λ j d save. absurd (others_save item other j d save))

  abbrev entry_by : ℕ → ℕ → ℕ → Sent → Ruling → Entry
  entry_by stamp pass moment sent ruling = record { stamp = stamp; pass = pass; moment = moment; call = call_of client sent; ruling = ruling }

  own_entry : (shard : Shard) (history : List Item) (speaker : Speaker) (came : List Came) (sent : Sent) (stamp pass moment : ℕ) (ruling : Ruling) → Holds client start shard history speaker came →
      Contains speaker.sent sent → IsAllowed shard (Ran (Step (entry_by stamp pass moment sent ruling))) →
      Holds client start (happens shard (Ran (Step (entry_by stamp pass moment sent ruling)))) (history ++ Ran (Step (entry_by stamp pass moment sent ruling)) ∷ []) speaker came
  own_entry shard history speaker came sent stamp pass moment ruling h was allowed =
      holds-push client start shard history speaker came (Ran (Step (entry_by stamp pass moment sent ruling))) h allowed
      (elim (ready client shard sent moment (λ j d is. (h.knows.ops (Put j d) (subst (Contains speaker.sent) is was)).0)) [
        | inl able ↦ inl (by_session sent refl able)
        | inr dead ↦ inr (dead, sent, refl)
      ])
      (λ j d save. subst (Contains speaker.sent) (put_of_act client sent j d save.1) was)

  own_reply : (shard : Shard) (history : List Item) (speaker : Speaker) (came : List Came) (sent : Sent) (stamp pass moment : ℕ) (ruling : Ruling) →
      IsAllowed shard (Ran (Step (entry_by stamp pass moment sent ruling))) → Contains speaker.sent sent →
      Holds client start (happens shard (Ran (Step (entry_by stamp pass moment sent ruling)))) (history ++ Ran (Step (entry_by stamp pass moment sent ruling)) ∷ []) speaker came →
      ReplyHolds client start (happens shard (Ran (Step (entry_by stamp pass moment sent ruling)))) (history ++ Ran (Step (entry_by stamp pass moment sent ruling)) ∷ []) sent ruling
  own_reply shard history speaker came Info stamp pass moment ruling allowed was h = tt
  own_reply shard history speaker came TakeLock stamp pass moment ruling allowed was h = reply_to_lock client shard moment stamp ruling allowed h.ground.staged
  own_reply shard history speaker came Get stamp pass moment ruling allowed was h =
      reply_to_get client start shard (history ++ Ran (Step (entry_by stamp pass moment Get ruling)) ∷ []) moment stamp ruling allowed h.ground.staged (h.knows.ops Get was)
  own_reply shard history speaker came (Put j d) stamp pass moment ruling allowed was h = λ status. (
    length history,
    entry_by stamp pass moment (Put j d) ruling,
    get_new history (Ran (Step (entry_by stamp pass moment (Put j d) ruling))),
    (refl, refl, status),
    refl,
  )
  own_reply shard history speaker came (Relock j) stamp pass moment ruling allowed was h = (
    reply_to_relock client shard j moment stamp ruling allowed h.ground.staged,
    conflict_with_next client shard (Relock j) (j + 1) moment stamp ruling allowed h.ground.staged,
  )
  own_reply shard history speaker came (RefreshLock j) stamp pass moment ruling allowed was h = tt
  own_reply shard history speaker came (Unlock j) stamp pass moment ruling allowed was h = tt

  kept-by : (shard : Shard) (history : List Item) (speaker : Speaker) (came : List Came) (sent : Sent) (stamp pass moment : ℕ) (ruling : Ruling) → Holds client start shard history speaker came →
      Contains speaker.sent sent → IsAllowed shard (Ran (Step (entry_by stamp pass moment sent ruling))) →
      Holds client start (happens shard (Ran (Step (entry_by stamp pass moment sent ruling)))) (history ++ Ran (Step (entry_by stamp pass moment sent ruling)) ∷ []) speaker
      (came ++ record { sent = sent; ruling = ruling } ∷ [])
  kept-by shard history speaker came sent stamp pass moment ruling h was allowed =
      let item : Item = Ran (Step (entry_by stamp pass moment sent ruling)) in
      let entered = own_entry shard history speaker came sent stamp pass moment ruling h was allowed in
      holds-came client start (happens shard item) (history ++ item ∷ []) speaker came (record { sent = sent; ruling = ruling }) entered
      (own_reply shard history speaker came sent stamp pass moment ruling allowed was entered)

  kept-arrives : (shard : Shard) (history : List Item) (speaker : Speaker) (came : List Came) (sent : Sent) (entry : Entry) → Holds client start shard history speaker came →
      Contains speaker.sent sent → entry.call ≡ call_of client sent → IsAllowed shard (Ran (Step entry)) →
      Holds client start (happens shard (Ran (Step entry))) (history ++ Ran (Step entry) ∷ []) speaker (came ++ record { sent = sent; ruling = entry.ruling } ∷ [])
  kept-arrives shard history speaker came sent entry h was call =
      subst (λ (c : Call). (IsAllowed shard (Ran (Step (record { stamp = entry.stamp; pass = entry.pass; moment = entry.moment; call = c; ruling = entry.ruling })))) →
      Holds client start (happens shard (Ran (Step (record { stamp = entry.stamp; pass = entry.pass; moment = entry.moment; call = c; ruling = entry.ruling }))))
      (history ++ Ran (Step (record { stamp = entry.stamp; pass = entry.pass; moment = entry.moment; call = c; ruling = entry.ruling })) ∷ []) speaker
      (came ++ record { sent = sent; ruling = entry.ruling } ∷ [])) (sym call)
      (λ allowed. kept-by shard history speaker came sent entry.stamp entry.pass entry.moment entry.ruling h was allowed)

  -- a look at the lock in a Put's stead

  look_of_others : (entry : Entry) → entry.call ≡ look_of client → IsOfOthers client (Ran (Step entry))
  look_of_others entry look same number presents = subst (λ (c : Call). Presents c.act (lock_id client.nonce number)) look presents

  unsaved_by : (accepted : Bool) (ruling : Ruling) → (ruling.status == 200) ≡ accepted →
      (if accepted then record ruling { status = 409; reason = Some Changed } else ruling).status ≢ 200
  unsaved_by true ruling e saved = absurd (omega (arith, saved))
  unsaved_by false ruling e saved = eqb-false ruling.status 200 e saved

  unsaved : (ruling : Ruling) → (changed_by ruling).status ≢ 200
  unsaved ruling = unsaved_by (ruling.status == 200) ruling refl

  kept-looked : (shard : Shard) (history : List Item) (speaker : Speaker) (came : List Came) (number : ℕ) (contents : List ℕ) (entry : Entry) → Holds client start shard history speaker came →
      entry.call ≡ look_of client → IsAllowed shard (Ran (Step entry)) →
      Holds client start (happens shard (Ran (Step entry))) (history ++ Ran (Step entry) ∷ []) speaker (came ++ record { sent = Put number contents; ruling = changed_by entry.ruling } ∷ [])
  kept-looked shard history speaker came number contents entry h look allowed =
      let item : Item = Ran (Step entry) in
      holds-came client start (happens shard item) (history ++ item ∷ []) speaker came (record { sent = Put number contents; ruling = changed_by entry.ruling })
      (kept-passes shard history speaker came item h (look_of_others entry look) allowed (λ moment first is. absurd (cc is)))
      (λ saved. absurd (unsaved entry.ruling saved))

  -- a restart behind what was accepted under the token

  later_than : (whole history items : List Item) (shard : Shard) (item : Item) → history ++ item ∷ items ≡ whole → RestartsLater client whole →
      (HasMark client (own_file client shard) → WasUsed client history) →
      (moment first : ℕ) → item ≡ Restarted moment first → HasMark client (own_file client shard) → client.token.issued < moment
  later_than whole history items shard item e later used moment first is mark =
      let use_ = used mark in
      later history items moment first use_.0 use_.1 (subst (λ (x : Item). history ++ x ∷ items ≡ whole) is e) use_.2 use_.3

  -- the whole

  pub record Reached (told : List Told) (history : List Item) : Type 0 where
    pub shard : Shard
    pub speaker : Speaker
    pub came : List Came
    pub kept : Holds client start shard history speaker came
    pub told_is : speaker.told ≡ told

  goes_on : (whole : List Item) → RestartsLater client whole → (shard : Shard) (history : List Item) (speaker : Speaker) (came : List Came) (heard : List Input) (items : List Item) →
      TalksOver client speaker came heard items → history ++ items ≡ whole → Along IsAllowed shard items → Holds client start shard history speaker came →
      Reached (hears_all client speaker heard).told whole
  goes_on whole later shard history speaker came [] [] (ends _ _) e allowed h =
      record {
        shard = shard;
        speaker = speaker;
        came = came;
        kept = subst (λ (l : List Item). Holds client start shard l speaker came) (sym (append-nil history) ∙ e) h;
        told_is = refl;
      }
  goes_on whole later shard history speaker came (given ∷ heard) items (prompted _ _ _ _ _ none more) e allowed h =
      goes_on whole later shard history (hears client speaker given) came heard items more e allowed (kept-asked shard history speaker came given h none)
  goes_on whole later shard history speaker came (given ∷ heard) items (answered _ _ one awaits answer _ _ there looks more) e allowed h =
      goes_on whole later shard history (hears client speaker (input.Reply answer)) came heard items more e allowed
      (kept-answered shard history speaker came one awaits answer h there looks)
  goes_on whole later shard history speaker came (given ∷ heard) items (refused _ _ answer _ _ ok conflict more) e allowed h =
      goes_on whole later shard history (hears client speaker (input.Reply answer)) came heard items more e allowed
      (kept-refused shard history speaker came answer h ok conflict)
  goes_on whole later shard history speaker came heard (item ∷ items) (arrives _ _ sent entry _ _ was call more) e allowed h =
      goes_on whole later (happens shard (Ran (Step entry))) (history ++ Ran (Step entry) ∷ []) speaker (came ++ record { sent = sent; ruling = entry.ruling } ∷ []) heard items more
      (append_assoc history (Ran (Step entry) ∷ []) items ∙ e) allowed.1 (kept-arrives shard history speaker came sent entry h was call allowed.0)
  goes_on whole later shard history speaker came heard (item ∷ items) (looked _ _ number contents entry _ _ was look more) e allowed h =
      goes_on whole later (happens shard (Ran (Step entry))) (history ++ Ran (Step entry) ∷ []) speaker (came ++ record { sent = Put number contents; ruling = changed_by entry.ruling } ∷ []) heard items more
      (append_assoc history (Ran (Step entry) ∷ []) items ∙ e) allowed.1 (kept-looked shard history speaker came number contents entry h look allowed.0)
  goes_on whole later shard history speaker came heard (item ∷ items) (passes _ _ _ _ _ other more) e allowed h =
      goes_on whole later (happens shard item) (history ++ item ∷ []) speaker came heard items more
      (append_assoc history (item ∷ []) items ∙ e) allowed.1
      (kept-passes shard history speaker came item h other allowed.0 (later_than whole history items shard item e later h.ground.used))

pub talk_lem : (opening : Opening) (opened first : ℕ) (client : Client) (heard : List Input) (history : List Item) → Along IsAllowed (opened_shard opening opened first) history →
    RestartsLater client history → IsTalkOver client heard history → IsSafeFor client (told_by client heard) (opened_shard opening opened first) history
talk_lem opening opened first client heard history allowed later over =
    let start = opened_shard opening opened first in
    let r = goes_on client start history later start [] first_speaker [] heard history over refl allowed (first_holds opening opened first client) in
    record {
      saves = subst (λ (t : List Told). SavesAreOrdered client t start history) r.told_is (ordered client start r.shard history r.speaker r.came r.kept);
      ids = keeps_ids client start r.shard history r.kept.ground;
    }

-- a journal's part

no_restart : (items : List run.Item) (before later : List Item) (moment first : ℕ) → before ++ Restarted moment first ∷ later ≡ map Ran items → ⊥
no_restart [] [] later moment first e = cc
no_restart [] (one ∷ before) later moment first e = cc
no_restart (item ∷ items) [] later moment first e = cc
no_restart (item ∷ items) (one ∷ before) later moment first e = let rest : before ++ Restarted moment first ∷ later ≡ map Ran items = cc in no_restart items before later moment first rest

-- what is allowed in a run is allowed over restarts
pub allowed_along : (shard : Shard) (items : List run.Item) → run.Along run.IsAllowed shard items → Along IsAllowed shard (map Ran items)
allowed_along shard [] h = tt
allowed_along shard (item ∷ items) h = (h.0, allowed_along (run.happens shard item) items h.1)

pub shard_lem : (opening : Opening) (opened first : ℕ) (history : List run.Item) (client : Client) (heard : List Input) → run.Legal opening opened first history →
    IsTalkOver client heard (map Ran history) → IsSafeFor client (told_by client heard) (opened_shard opening opened first) (map Ran history)
shard_lem opening opened first history client heard legal over =
    talk_lem opening opened first client heard (map Ran history) (allowed_along (opened_shard opening opened first) history legal.allowed)
    (λ before later moment number place item e there use_. absurd (no_restart history before later moment number e)) over

pub journal_lem : (opening : Opening) (opened first : ℕ) (merge : List Entry) (shard : ℕ) (client : Client) (heard : List Input) → shard < 16 →
    LegalHost opening opened first merge → IsTalkOver client heard (map Ran (part_of shard merge)) →
    IsSafeFor client (told_by client heard) (opened_shard (opening_of shard opening) opened first) (map Ran (part_of shard merge))
journal_lem opening opened first merge shard client heard within legal over =
    shard_lem (opening_of shard opening) opened first (part_of shard merge) client heard (legal.shards shard within) over
