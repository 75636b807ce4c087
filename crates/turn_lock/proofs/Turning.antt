-- The steps of a turn keep the rule: a ticket is drawn, awaited, the entries are counted, and the next ticket is served.
use Rattle.std.proofs.Common.{◌≡◌, inl, inr, ⊎_elim, ℕ, ◌+◌, ◌-◌, ◌%◌, ◌<◌, ◌≤◌, ◌^◌, cond, eqb, eq-eqb, ne_eqb, List, [], ◌∷◌, set, length, get_or, Option, Some, refl, ap, sym, ◌∙◌, subst, arith}
use mathlib.Core.Logic.{dite}
use native.Mathlib.Decide.{ℕ_discrete}
use mathlib.Core.Option.{some, none}
use mathlib.Core.List.{IsPrefix}
use lib.ListN.{get_elem?}
use lib.Seq.{set-get_or}
use prog.Atomic.{either}
use Rattle.atomic_table.proofs.Lists.{set_here, exchanged}
use Rattle.atomic_table.specs.Table.{State, Me, step, keeps, takes, gives, Allows, put_back}
use Rattle.turn_lock.specs.declared.view.View.{View}
use Rattle.turn_lock.specs.declared.view.Stage.{Stage}
use Rattle.turn_lock.specs.declared.view.Stage.TheVariants.{Free, Waiting, Turn}
use Rattle.turn_lock.specs.Places.{times, once_below, places_behind}
use Rattle.turn_lock.specs.Turns.{Carries, HasNoTicket, HasTurn, IsHome, IsOut, IsOrderly}
use Rattle.turn_lock.specs.Steps.{with_stage, with_counted, Draws, Looks, Counts, Serves}
use Rattle.turn_lock.proofs.Keeping.{Picks, here_length, turn_holder, views_stay, rekept, same_view, slot_stays, unmoved, stage_at, away_at, no_turn}
use Rattle.turn_lock.proofs.Prefixes.{prefix_self, prefix_length}
use Rattle.turn_lock.proofs.Sums.{times-append, times-places_from}

module _ {T E B : Type 0} (entries : T → List E) (base : T → B) where
  abbrev W : Type 0
  W = View E B

  abbrev St : Type 0
  St = State (Option T) W

  abbrev M : Type 0
  M = Me (Option T) W

  abbrev Rule : St → Type 0
  Rule = IsOrderly entries base

  -- a ticket is drawn
  pub draws : (slots id : ℕ) (m : M) (old : ℕ) → m.0.stage ≡ Free → 0 < m.0.weight → old + 1 < 2 ^ 64
      → Allows Rule slots id m 0 (λ n. either (eqb n old) (old + 1) n) (Draws (step slots 0 old (old + 1) none) m)
  draws slots id m old free heavy small s r deep at bound =
      let v : W = m.0 in
      let found : get_or s.words 0 0 ≡ r.ticket = ap (λ ws. get_or ws 0 0) r.words in
      let mine = r.each_view id v at in
      exchanged (get_or s.words 0 0) old (old + 1) (Picks entries base s 0 id m (Draws (step slots 0 old (old + 1) none) m (get_or s.words 0 0)))
      (λ hit.
      let w : W = with_stage v (Waiting old) in
      let holder : ℕ → ℕ = λ k. cond (eqb k old) id (r.holder k) in
      let o = r.ordered in (
        w,
        keeps,
        tt,
        rekept entries base s r id v w at (set s.words 0 (old + 1)) s.homes (old + 1) r.serving r.history holder r.bank
            (ap (λ ws. set ws 0 (old + 1)) r.words) small (omega arith) (omega arith) (inl refl) (inl refl) (prefix_self r.history)
            (λ k below. rw (ne_eqb k old (λ e. omega arith)) refl)
            record { begins = mine.begins; carries = mine.carries; stage_holds = (omega arith, omega arith, rw (eq-eqb old old refl) refl); weightless = λ z. absurd (omega arith) }
            (λ x. refl) refl
            (slot_stays entries base s r.history r.root id v w (set s.words 0 (old + 1)) at (no_turn entries base v Free free (λ h. h)) (λ h. h) r.slot),
        (λ e. ap (λ (n : ℕ). (with_stage v (Waiting n), m.1)) (sym hit), λ ne. absurd (ne hit)),
      ))
      (λ miss. (v, keeps, tt, unmoved entries base s r 0 id v m.1 at, (λ e. absurd (miss e), λ ne. refl)))

  -- the ticket is awaited
  pub looks : (slots id : ℕ) (m : M) (t : ℕ) → m.0.stage ≡ Waiting t → Allows Rule slots id m 1 (λ n. n) (Looks entries base (step slots 1 0 0 none) m)
  looks slots id m t is s r deep at bound =
      let v : W = m.0 in
      let found : get_or s.words 1 0 ≡ r.serving = ap (λ ws. get_or ws 1 0) r.words in
      let mine = r.each_view id v at in
      let holds = stage_at entries base s r id v (Waiting t) at is in
      dite (ℕ_discrete (get_or s.words 1 0) t)
      (λ hit.
      let due : r.serving ≡ t = sym found ∙ hit in
      let own : r.holder r.serving ≡ id = ap r.holder due ∙ holds.2 in
      let not_out : ¬ (IsOut entries base s) = λ o. let e : o.seat ≡ id = sym (turn_holder r.ticket r.serving r.history r.holder o.seat o.view.stage o.turn (r.each_view o.seat o.view o.there).stage_holds) ∙ own in
      subst (λ (z : Stage E). HasTurn z) (ap (λ (u : W). u.stage) (same_view entries base s o.seat id o.view v e o.there at) ∙ is) o.turn in
      ⊎_elim (λ (h : IsHome entries base r.history r.root s).
      let x : T = h.value in
      let w : W = with_stage v (Turn t (entries x)) in (
        w,
        takes 0 (Some x),
        h.home,
        subst (λ (ws : List ℕ). Rule record { words = ws; homes = set s.homes 0 none; views = set s.views id w }) (sym (set-get_or s.words 1 0))
            (rekept entries base s r id v w at s.words (set s.homes 0 none) r.ticket r.serving r.history r.holder r.bank r.words r.bounded r.ordered (omega arith) (inl refl) (inl refl) (prefix_self r.history) (λ k b. refl)
            record { begins = mine.begins; carries = mine.carries; stage_holds = (due, holds.1, holds.2, h.whole); weightless = λ z. absurd (subst HasNoTicket is (mine.weightless z).0) }
            (λ x. refl) refl
            (inr record { seat = id; view = w; there = set_here s.views id w (here_length s.views id v at); turn = tt; away = set_here s.homes 0 none (here_length s.homes 0 (some (Some x)) h.home) })),
        λ t' is'. let same : t' ≡ t = cc in (
          λ e. (x, ap (λ (k : ℕ). (with_stage v (Turn k (entries x)), (0, Some x) ∷ m.1)) (sym same), subst (IsPrefix v.seen) (sym h.whole) mine.begins, subst (λ (b : B). Carries b v.base) (sym h.based) mine.carries),
          λ ne. absurd (ne (hit ∙ sym same)),
        ),
      ))
      (λ (o : IsOut entries base s). absurd (not_out o)) r.slot)
      (λ miss. (v, keeps, tt, unmoved entries base s r 1 id v m.1 at, λ t' is'. let same : t' ≡ t = cc in (λ e. absurd (miss (e ∙ same)), λ ne. refl)))

  -- the entries of the value that is announced are counted
  pub counts : (slots id : ℕ) (m : M) (t : ℕ) (l : List E) (x : T) (old new : ℕ) → m.0.stage ≡ Turn t l → IsPrefix l (entries x) → old ≡ length l → new ≡ length (entries x)
      → Allows Rule slots id m 2 (λ n. either (eqb n old) new n) (Counts entries (step slots 2 old new (some (Some x))) m)
  counts slots id m t l x old new is grows old_is new_is s r deep at bound =
      let v : W = m.0 in
      let ys : List E = entries x in
      let w : W = with_counted v t l ys in
      let found : get_or s.words 2 0 ≡ length r.history = ap (λ ws. get_or ws 2 0) r.words in
      let mine = r.each_view id v at in
      let holds = stage_at entries base s r id v (Turn t l) at is in
      let own : r.holder r.serving ≡ id = ap r.holder holds.0 ∙ holds.2 in
      let grown : IsPrefix r.history ys = subst (λ (z : List E). IsPrefix z ys) holds.3 grows in
      let more : length l ≤ length ys = prefix_length l ys grows in
      let far : length l + (length ys - length l) ≡ length ys = omega arith in
      let same : length l ≡ length r.history = ap length holds.3 in
      exchanged (get_or s.words 2 0) old new (Picks entries base s 2 id m (Counts entries (step slots 2 old new (some (Some x))) m (get_or s.words 2 0)))
      (λ hit. (
        w,
        keeps,
        tt,
        rekept entries base s r id v w at (set s.words 2 new) s.homes r.ticket r.serving ys r.holder r.bank
            (ap (λ ws. set ws 2 new) r.words ∙ ap (λ (k : ℕ). r.ticket ∷ r.serving ∷ k ∷ r.bank ∷ []) new_is) r.bounded r.ordered (omega arith) (inl refl) (inr own) grown (λ k b. refl)
            record { begins = prefix_self ys; carries = mine.carries; stage_holds = (holds.0, holds.1, holds.2, refl); weightless = λ z. absurd (subst HasNoTicket is (mine.weightless z).0) }
            (λ place. let both = times-append place v.own (places_behind l ys) in
            let new_ones : times place (places_behind l ys) + once_below place (length r.history) ≡ once_below place (length ys) =
            subst (λ (k : ℕ). times place (places_behind l ys) + once_below place k ≡ once_below place (length ys)) same
            (times-places_from place (length l) (length ys - length l) ∙ ap (once_below place) far) in
            omega arith)
            refl
            (inr record { seat = id; view = w; there = set_here s.views id w (here_length s.views id v at); turn = tt; away = away_at entries base s r id v t l at is }),
        λ t' l' x' is' said.
            let e : Turn t l ≡ Turn t' l' = sym is ∙ is' in
            let tt' : t ≡ t' = cc in
            let ll' : l ≡ l' = cc in
            let xx' : x ≡ x' = cc in
            λ k. (with_counted v (tt' k) (ll' k) (entries (xx' k)), m.1),
      ))
      (λ miss. absurd (miss (found ∙ (sym same ∙ sym old_is))))

  -- the turn is over
  pub serves : (slots id : ℕ) (m : M) (t : ℕ) (l : List E) (x : T) → 0 < slots → m.0.stage ≡ Turn t l → m.1 ≡ (0, Some x) ∷ [] → entries x ≡ l → m.0.base ≡ Some (base x)
      → Allows Rule slots id m 1 (λ n. (n + 1) % 2 ^ 64) (Serves (step slots 1 1 0 none) m)
  serves slots id m t l x some_slot is holds_slot whole based s r deep at bound =
      let v : W = m.0 in
      let w : W = with_stage v Free in
      let mine = r.each_view id v at in
      let holds = stage_at entries base s r id v (Turn t l) at is in
      let own : r.holder r.serving ≡ id = ap r.holder holds.0 ∙ holds.2 in
      let found : get_or s.words 1 0 ≡ r.serving = ap (λ ws. get_or ws 1 0) r.words in
      let below = holds.1 in
      let due = holds.0 in
      let top = r.bounded in
      let next : (get_or s.words 1 0 + 1) % 2 ^ 64 ≡ r.serving + 1 = omega arith in
      let root : r.root ≡ base x = subst (Carries r.root) based mine.carries in
      let hs = put_back s.homes m.1 in
      let placed : hs ≡ set s.homes 0 (some (Some x)) = ap (put_back s.homes) holds_slot in (
        w,
        gives,
        tt,
        rekept entries base s r id v w at (set s.words 1 ((get_or s.words 1 0 + 1) % 2 ^ 64)) hs r.ticket (r.serving + 1) r.history r.holder r.bank
            (ap (λ ws. set ws 1 ((get_or s.words 1 0 + 1) % 2 ^ 64)) r.words ∙ ap (λ (k : ℕ). r.ticket ∷ k ∷ length r.history ∷ r.bank ∷ []) next) r.bounded (omega arith) (omega arith) (inr (refl, own)) (inl refl) (prefix_self r.history) (λ k b. refl)
            record { begins = mine.begins; carries = mine.carries; stage_holds = tt; weightless = λ z. (tt, (mine.weightless z).1) }
            (λ x. refl) refl
            (inl record {
              value = x;
              home = ap (λ z. get_elem? z 0) placed ∙ set_here s.homes 0 (some (Some x)) (omega arith);
              whole = whole ∙ holds.3;
              based = sym root;
              no_turn = views_stay entries base (λ j u. ¬ (HasTurn u.stage)) s.views id w (λ h. h)
                  (λ j u other there turn. other (sym (turn_holder r.ticket r.serving r.history r.holder j u.stage turn (r.each_view j u there).stage_holds) ∙ own));
            }),
        refl,
      )
