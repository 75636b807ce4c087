-- What holds of one session beside a history, and that it goes on as the history grows, as requests of the session arrive, and as it sends
-- and tells.
use Rattle.std.proofs.Common.{◌≡◌, ℕ, ◌+◌, Bool, List, [], ◌∷◌, ◌++◌, Option, None, Some, unwrap_or, sym, ap, subst, ◌∙◌, inl, inr, arith}
use Rattle.std.proofs.lemmas.List.Elements.{Contains-append_left, Contains-push, Contains-push_cases}
use Rattle.std.specs.List.{slice_get, Contains}
use Rattle.wopi_model.specs.declared.calls.Ruling.{Ruling}
use Rattle.wopi_model.specs.Shard.{Shard, Step}
use Rattle.wopi_world.specs.History.{Item, Ran, IsAllowed, Along, happens, after}
use Rattle.wopi_world.proofs.Lengthening.{after-append, Along-append, Along-weaker}
use Rattle.save_session.specs.declared.state.Phase.{Phase}
use Rattle.save_session.specs.declared.output.Outcome.{Outcome}
use Rattle.save_session.specs.declared.state.State.{State}
use Rattle.save_session.specs.declared.state.Phase.TheVariants.{New, Working, Ended}
use Rattle.save_session.specs.declared.output.Outcome.TheVariants.{Opened, Read as WasRead, Saved, Refreshed, Closed, Conflict as InConflict, LockLost, TooLarge, HostFault, TokenDead, Gone, NoAnswer}
use Rattle.wopi_world.specs.Requests.{Sent, Info, TakeLock, Get, Put, Relock, RefreshLock, Unlock}
use Rattle.wopi_world.specs.Requests.{Client}
use Rattle.wopi_world.specs.World.{Told}
use Rattle.wopi_world.specs.Talks.{Speaker, Came}
use Rattle.wopi_world.specs.Safe.{contents_in, IsSave, IsNoSave}
use Rattle.wopi_world.proofs.Held.{same_holder, not_both}
use Rattle.wopi_world.proofs.Moving.{own_file, IsUnder, IsGone, IsStaged, Moves, remains_out, taken, kept, saved, relocked, ended, ComesAt, staged-happens, gone-moves, HasMark, mark-happens, moves}
use Rattle.wopi_world.proofs.OneRun.{WasUsed, used-push, used-new}
use Rattle.wopi_world.proofs.Positions.{carries-moves, carried, saves_under, AtFirstSave, first_save_push, first_save_weaker}
use Rattle.wopi_world.proofs.Lists.{get_left, get_back}
use Rattle.wopi_world.proofs.Machine.{WasHeldIn, HasOpened, IsFresh, WasSaved, OpHolds, ReplyHolds, OutcomeHolds, PhaseHolds, WaitHolds, told_with, Knows, IsSameAsSent, SendHolds, TellHolds}

-- the history, as the session sees it
pub record Ground (client : Client) (start shard : Shard) (history : List Item) : Type 0 where
  pub is_after : after start history ≡ shard
  pub moved : Along (Moves client) start history
  pub staged : IsStaged client shard
  pub used : HasMark client (own_file client shard) → WasUsed client history

-- the session told that it opened, with the contents of that shard
abbrev pub OpenedWith : Client → List Told → Shard → Type 0
OpenedWith client told shard =
    (place : ℕ) × (one : Told) × (version : Option ℕ) × (slice_get told place ≡ Some one) × (one.outcome ≡ Opened version)
    × (contents_in client shard ≡ Some one.contents)

-- each accepted save was sent
abbrev pub SavesSent : Client → Shard → List Item → List Sent → Type 0
SavesSent client start history sent =
    Along (λ at item. (j : ℕ) (d : List ℕ) → IsSave client j d item → Contains sent (Put j d)) start history

pub record Holds (client : Client) (start shard : Shard) (history : List Item) (speaker : Speaker) (came : List Came) : Type 0 where
  pub ground : Ground client start shard history
  pub knows : Knows client start shard history (Contains speaker.sent) speaker.told speaker.session
  pub saves_sent : SavesSent client start history speaker.sent
  pub came_holds : (one : Came) → Contains came one → ReplyHolds client start shard history one.sent one.ruling
  pub told_holds : (place : ℕ) (one : Told) → slice_get speaker.told place ≡ Some one → OutcomeHolds client start shard history one.number one.saved one.contents one.outcome
  pub first : AtFirstSave client (OpenedWith client speaker.told) start history

-- the history grows

pub was_held-moves : (client : Client) (j : ℕ) (shard : Shard) (item : Item) → Moves client shard item → WasHeldIn client j shard → WasHeldIn client j (happens shard item)
was_held-moves client j shard item mv (inr gone) = inr (gone-moves client j shard item mv gone)
was_held-moves client j shard item (remains_out b a n k) (inl u) = absurd (not_both client shard.now (own_file client shard) j u b)
was_held-moves client j shard item (taken b g a n) (inl u) = absurd (not_both client shard.now (own_file client shard) j u b)
was_held-moves client j shard item (kept m b a c n e) (inl u) =
    inl (subst (λ (k : ℕ). IsUnder client k (happens shard item)) (same_holder client shard.now shard.now (own_file client shard) m j b u) a)
was_held-moves client j shard item (saved m d b a c n e) (inl u) =
    inl (subst (λ (k : ℕ). IsUnder client k (happens shard item)) (same_holder client shard.now shard.now (own_file client shard) m j b u) a)
was_held-moves client j shard item (relocked m b a c n e) (inl u) =
    let same = same_holder client shard.now shard.now (own_file client shard) m j b u in
    let counted = u.counted in
    inr (inl (a.lower j counted (omega (arith, same))))
was_held-moves client j shard item (ended m b a g h n x) (inl u) =
    inr (subst (λ (k : ℕ). IsGone client k (happens shard item)) (same_holder client shard.now shard.now (own_file client shard) m j b u) h)

pub record Later (client : Client) (start shard : Shard) (history : List Item) (next : Shard) (longer : List Item) : Type 0 where
  pub held : (j : ℕ) → WasHeldIn client j shard → WasHeldIn client j next
  pub fresh : (contents : List ℕ) → IsFresh client start shard history contents → IsFresh client start next longer contents
  pub saved : (number : ℕ) (contents : List ℕ) (version : Option ℕ) → WasSaved client history number contents version → WasSaved client longer number contents version

pub Along-unpush : (P : Shard → Item → Type 0) (start : Shard) (history : List Item) (item : Item) → Along P start (history ++ item ∷ []) → Along P start history × P (after start history) item
Along-unpush P start [] item h = (tt, h.0)
Along-unpush P start (one ∷ history) item h = let rest = Along-unpush P (happens start one) history item h.1 in ((h.0, rest.0), rest.1)

pub later-push : (client : Client) (start shard : Shard) (history : List Item) (item : Item) → Moves client shard item →
    Later client start shard history (happens shard item) (history ++ item ∷ [])
later-push client start shard history item mv =
    record {
      held = λ j h. was_held-moves client j shard item mv h;
      fresh = λ contents h none.
          let before = Along-unpush (λ at one. IsNoSave client one) start history item none in
          carries-moves client contents shard item mv before.1 (h before.0);
      saved = λ number contents version h. (h.0, h.1, get_left history (item ∷ []) h.0 (Ran (Step h.1)) h.2, h.3, h.4);
    }

op-later : (client : Client) (start shard : Shard) (history : List Item) (next : Shard) (longer : List Item) → Later client start shard history next longer →
    (told : List Told) (number : ℕ) (used : Bool) (op : Sent) → OpHolds client shard told number used op → OpHolds client next told number used op
op-later client start shard history next longer l told number used Info h = h
op-later client start shard history next longer l told number used TakeLock h = h
op-later client start shard history next longer l told number used Get h = l.held 1 h
op-later client start shard history next longer l told number used (Put j d) h = (l.held j h.0, h.1, h.2, h.3)
op-later client start shard history next longer l told number used (Relock j) h = h
op-later client start shard history next longer l told number used (RefreshLock j) h = h
op-later client start shard history next longer l told number used (Unlock j) h = h

reply-later : (client : Client) (start shard : Shard) (history : List Item) (next : Shard) (longer : List Item) → Later client start shard history next longer →
    (op : Sent) (reply : Ruling) → ReplyHolds client start shard history op reply → ReplyHolds client start next longer op reply
reply-later client start shard history next longer l Info reply h = h
reply-later client start shard history next longer l TakeLock reply h = λ s. l.held 1 (h s)
reply-later client start shard history next longer l Get reply h = λ s. l.fresh (unwrap_or reply.contents []) (h s)
reply-later client start shard history next longer l (Put j d) reply h = λ s. l.saved j d reply.version (h s)
reply-later client start shard history next longer l (Relock j) reply h = (λ s. l.held (j + 1) (h.0 s), λ s n. l.held (j + 1) (h.1 s n))
reply-later client start shard history next longer l (RefreshLock j) reply h = h
reply-later client start shard history next longer l (Unlock j) reply h = h

outcome-later : (client : Client) (start shard : Shard) (history : List Item) (next : Shard) (longer : List Item) → Later client start shard history next longer →
    (number : ℕ) (put contents : List ℕ) (outcome : Outcome) → OutcomeHolds client start shard history number put contents outcome → OutcomeHolds client start next longer number put contents outcome
outcome-later client start shard history next longer l number put contents (Opened version) h = l.fresh contents h
outcome-later client start shard history next longer l number put contents (Saved version) h = l.saved number put version h
outcome-later client start shard history next longer l number put contents (WasRead version) h = h
outcome-later client start shard history next longer l number put contents Refreshed h = h
outcome-later client start shard history next longer l number put contents Closed h = h
outcome-later client start shard history next longer l number put contents (InConflict lock reason) h = h
outcome-later client start shard history next longer l number put contents (LockLost lock reason) h = h
outcome-later client start shard history next longer l number put contents TooLarge h = h
outcome-later client start shard history next longer l number put contents (HostFault status) h = h
outcome-later client start shard history next longer l number put contents TokenDead h = h
outcome-later client start shard history next longer l number put contents Gone h = h
outcome-later client start shard history next longer l number put contents NoAnswer h = h

phase-later : (client : Client) (start shard : Shard) (history : List Item) (next : Shard) (longer : List Item) → Later client start shard history next longer →
    (told : List Told) (number : ℕ) (phase : Phase) → PhaseHolds client shard told number phase → PhaseHolds client next told number phase
phase-later client start shard history next longer l told number New h = h
phase-later client start shard history next longer l told number Working h = (l.held 1 h.0, l.held number h.1, h.2)
phase-later client start shard history next longer l told number Ended h = h

ground-push : (client : Client) (start shard : Shard) (history : List Item) (item : Item) → Ground client start shard history → IsAllowed shard item → ComesAt client shard item →
    Ground client start (happens shard item) (history ++ item ∷ [])
ground-push client start shard history item g allowed comes =
    let mv = moves client shard item g.staged allowed comes in
    record {
      is_after = after-append start history (item ∷ []) ∙ ap (λ (x : Shard). happens x item) g.is_after;
      moved = Along-append (Moves client) start history (item ∷ []) g.moved (subst (λ (x : Shard). Moves client x item) (sym g.is_after) mv, tt);
      staged = staged-happens client shard item g.staged allowed comes;
      used = λ mark. elim (mark-happens client shard item allowed comes mark) [
        | inl old ↦ used-push client history item (g.used old)
        | inr new ↦ used-new client history item new
      ];
    }

pub holds-push : (client : Client) (start shard : Shard) (history : List Item) (speaker : Speaker) (came : List Came) (item : Item) →
    Holds client start shard history speaker came → IsAllowed shard item → ComesAt client shard item →
    ((j : ℕ) (d : List ℕ) → IsSave client j d item → Contains speaker.sent (Put j d)) →
    Holds client start (happens shard item) (history ++ item ∷ []) speaker came
holds-push client start shard history speaker came item h allowed comes sends =
    let mv = moves client shard item h.ground.staged allowed comes in
    let next = happens shard item in
    let longer = history ++ item ∷ [] in
    let l = later-push client start shard history item mv in
    record {
      ground = ground-push client start shard history item h.ground allowed comes;
      knows = record {
        ops = λ op sent. op-later client start shard history next longer l speaker.told speaker.session.number speaker.session.used op (h.knows.ops op sent);
        same = h.knows.same;
        phase = phase-later client start shard history next longer l speaker.told speaker.session.number speaker.session.phase h.knows.phase;
        waits = h.knows.waits;
      };
      saves_sent = Along-append (λ at one. (j : ℕ) (d : List ℕ) → IsSave client j d one → Contains speaker.sent (Put j d)) start history (item ∷ []) h.saves_sent (sends, tt);
      came_holds = λ one there. reply-later client start shard history next longer l one.sent one.ruling (h.came_holds one there);
      told_holds = λ place one e. outcome-later client start shard history next longer l one.number one.saved one.contents one.outcome (h.told_holds place one e);
      first = first_save_push client (OpenedWith client speaker.told) start history item h.first (λ none j d save.
          let op = h.knows.ops (Put j d) (sends j d save) in
          let opened : HasOpened speaker.told = op.3 in
          let fresh : IsFresh client start shard history opened.1.contents =
          subst (OutcomeHolds client start shard history opened.1.number opened.1.saved opened.1.contents) opened.4 (h.told_holds opened.0 opened.1 opened.3) in
          let found = carried client opened.1.contents shard j (saves_under client shard item j d mv save).before (fresh none) in
          (opened.0, opened.1, opened.2, opened.3, opened.4, subst (λ (x : Shard). contents_in client x ≡ Some opened.1.contents) (sym h.ground.is_after) found));
    }

-- a request arrived

pub holds-came : (client : Client) (start shard : Shard) (history : List Item) (speaker : Speaker) (came : List Came) (new : Came) →
    Holds client start shard history speaker came → ReplyHolds client start shard history new.sent new.ruling →
    Holds client start shard history speaker (came ++ new ∷ [])
holds-came client start shard history speaker came new h holds =
    record {
      ground = h.ground;
      knows = h.knows;
      saves_sent = h.saves_sent;
      came_holds = λ one there. elim (Contains-push_cases came new one there) [
        | inl old ↦ h.came_holds one old
        | inr same ↦ subst (λ (x : Came). ReplyHolds client start shard history x.sent x.ruling) same holds
      ];
      told_holds = h.told_holds;
      first = h.first;
    }

-- the session sends

saves_sent_more : (client : Client) (start : Shard) (history : List Item) (sent : List Sent) (op : Sent) →
    SavesSent client start history sent → SavesSent client start history (sent ++ op ∷ [])
saves_sent_more client start history sent op h =
    Along-weaker (λ at one. (j : ℕ) (d : List ℕ) → IsSave client j d one → Contains sent (Put j d))
    (λ at one. (j : ℕ) (d : List ℕ) → IsSave client j d one → Contains (sent ++ op ∷ []) (Put j d))
    (λ at one f j d save. Contains-append_left sent (op ∷ []) (Put j d) (f j d save)) start history h

pub holds-send : (client : Client) (start shard : Shard) (history : List Item) (speaker : Speaker) (came : List Came) (session : State) (op : Sent) →
    Holds client start shard history speaker came → SendHolds client start shard history (Contains speaker.sent) speaker.told session op →
    Holds client start shard history (record { session = session; sent = speaker.sent ++ op ∷ []; told = speaker.told }) came
holds-send client start shard history speaker came session op h sh =
    let sent = speaker.sent in
    record {
      ground = h.ground;
      knows = record {
        ops = λ o there. elim (Contains-push_cases sent op o there) [
          | inl old ↦ sh.ops o old
          | inr new ↦ subst (OpHolds client shard speaker.told session.number session.used) new sh.new
        ];
        same = λ j c d a b. elim (Contains-push_cases sent op (Put j c) a) [
          | inl old_c ↦ elim (Contains-push_cases sent op (Put j d) b) [
            | inl old_d ↦ h.knows.same j c d old_c old_d
            | inr new_d ↦ (subst (IsSameAsSent (Contains sent)) new_d sh.same) c old_c
          ]
          | inr new_c ↦ elim (Contains-push_cases sent op (Put j d) b) [
            | inl old_d ↦ sym ((subst (IsSameAsSent (Contains sent)) new_c sh.same) d old_d)
            | inr new_d ↦ let both : Put j c ≡ Put j d = sym new_c ∙ new_d in cc
          ]
        ];
        phase = sh.phase;
        waits = λ w e.
            let is = sh.waits w e in (
              subst (WaitHolds session.phase session.number) (sym is) sh.waits_for,
              subst (Contains (sent ++ op ∷ [])) (sym is) (Contains-push sent op),
            );
      };
      saves_sent = saves_sent_more client start history sent op h.saves_sent;
      came_holds = h.came_holds;
      told_holds = h.told_holds;
      first = h.first;
    }

-- the session tells

pub holds-tell : (client : Client) (start shard : Shard) (history : List Item) (speaker : Speaker) (came : List Came) (put : List ℕ) (session : State) (outcome : Outcome) →
    Holds client start shard history speaker came → TellHolds client start shard history (Contains speaker.sent) speaker.told put session outcome →
    Holds client start shard history (record { session = session; sent = speaker.sent; told = told_with speaker.told put session outcome }) came
holds-tell client start shard history speaker came put session outcome h th =
    let one : Told = record { number = session.number; outcome = outcome; contents = (unwrap_or session.contents []); saved = put } in
    record {
      ground = h.ground;
      knows = record {
        ops = th.ops;
        same = h.knows.same;
        phase = th.phase;
        waits = λ w e. let bad : None ≡ Some w = sym th.quiet ∙ e in cc;
      };
      saves_sent = h.saves_sent;
      came_holds = h.came_holds;
      told_holds = λ place other e. elim (get_back speaker.told one place other e) [
        | inl old ↦ h.told_holds place other old
        | inr new ↦ subst (λ (x : Told). OutcomeHolds client start shard history x.number x.saved x.contents x.outcome) new.1 th.true_told
      ];
      first = first_save_weaker client (OpenedWith client speaker.told) (OpenedWith client (told_with speaker.told put session outcome))
          (λ at p. (p.0, p.1, p.2, get_left speaker.told (one ∷ []) p.0 p.1 p.3, p.4, p.5)) start history h.first;
    }
