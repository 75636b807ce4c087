-- What a step leaves of the rule, where it changes one view alone.
use Rattle.std.proofs.Common.{◌≡◌, ◌≢◌, ◌⊎◌, inl, inr, ⊎_elim, ℕ, zero, suc, ◌+◌, ◌<◌, ◌≤◌, ◌^◌, List, [], ◌∷◌, set, length, get_or, Option, ap, sym, ◌∙◌, subst, arith}
use mathlib.Core.Logic.{dite}
use native.Mathlib.Decide.{ℕ_discrete}
use mathlib.Core.Option.{some, none, some-injective, some-ne-none}
use mathlib.Core.List.{IsPrefix}
use lib.ListN.{get_elem?}
use lib.Seq.{set-get_or}
use Rattle.atomic_table.proofs.Lists.{at_set, set_again, set_else}
use Rattle.atomic_table.specs.Table.{State, Me, Act, keeps, stepped, Valid, carried_after}
use Rattle.turn_lock.specs.declared.view.View.{View}
use Rattle.turn_lock.specs.declared.view.Stage.{Stage}
use Rattle.turn_lock.specs.declared.view.Stage.TheVariants.{Free, Waiting, Turn, Joining}
use Rattle.turn_lock.specs.Places.{times, once_below}
use Rattle.turn_lock.specs.Turns.{StageHolds, HasTurn, ViewHolds, IsHome, IsOut, IsOrderly}
use Rattle.turn_lock.proofs.Prefixes.{prefix_trans}
use Rattle.turn_lock.proofs.Sums.{total-set}

pub here_length : {A : Type 0} (vs : List A) (i : ℕ) (v : A) → get_elem? vs i ≡ some v → i < length vs
here_length [] i v e = absurd (some-ne-none v (sym e))
here_length (x ∷ xs) zero v e = omega arith
here_length (x ∷ xs) (suc i) v e = let rest = here_length xs i v e in omega arith

module _ {E : Type 0} (ticket serving : ℕ) (history : List E) (holder : ℕ → ℕ) where
  -- who has the turn is the holder of the ticket that is served
  pub turn_holder : (j : ℕ) (now : Stage E) → HasTurn now → StageHolds ticket serving history holder j now → holder serving ≡ j
  turn_holder j Free turn holds = absurd turn
  turn_holder j (Waiting t) turn holds = absurd turn
  turn_holder j (Turn t l) turn holds = ap holder holds.0 ∙ holds.2
  turn_holder j (Joining xs ys) turn holds = absurd turn

-- what holds of a view whose seat doesn't step: the history may grow and the turn may pass only where its own isn't the ticket that is served
others_hold : {E : Type 0} (ticket serving ticket' serving' : ℕ) (history history' : List E) (holder holder' : ℕ → ℕ) (j : ℕ) (now : Stage E)
    → ticket ≤ ticket' → (serving' ≡ serving) ⊎ ((serving' ≡ serving + 1) × (holder serving ≢ j)) → (history ≡ history') ⊎ (holder serving ≢ j) → IsPrefix history history' → ((t : ℕ) → t < ticket → holder' t ≡ holder t)
    → StageHolds ticket serving history holder j now → StageHolds ticket' serving' history' holder' j now
others_hold ticket serving ticket' serving' history history' holder holder' j Free more next same grows held holds = tt
others_hold ticket serving ticket' serving' history history' holder holder' j (Waiting t) more next same grows held holds =
    let late : serving' ≤ t = ⊎_elim (λ (e : serving' ≡ serving). let due = holds.0 in omega arith)
    (λ (e : (serving' ≡ serving + 1) × (holder serving ≢ j)). dite (ℕ_discrete serving t) (λ is. absurd (e.1 (ap holder is ∙ holds.2))) (λ isnt. let due = holds.0 in let passed = e.0 in omega arith)) next in
    let below = holds.1 in
    (late, omega arith, held t below ∙ holds.2)
others_hold ticket serving ticket' serving' history history' holder holder' j (Turn t l) more next same grows held holds =
    let mine : holder serving ≡ j = ap holder holds.0 ∙ holds.2 in
    let stays : serving' ≡ serving = ⊎_elim (λ (e : serving' ≡ serving). e) (λ (e : (serving' ≡ serving + 1) × (holder serving ≢ j)). absurd (e.1 mine)) next in
    let whole : history ≡ history' = ⊎_elim (λ (e : history ≡ history'). e) (λ (e : holder serving ≢ j). absurd (e mine)) same in
    let below = holds.1 in
    (stays ∙ holds.0, omega arith, held t below ∙ holds.2, holds.3 ∙ whole)
others_hold ticket serving ticket' serving' history history' holder holder' j (Joining xs ys) more next same grows held holds =
    (prefix_trans xs history history' holds.0 grows, prefix_trans ys history history' holds.1 grows)

module _ {T E B : Type 0} (entries : T → List E) (base : T → B) where
  abbrev W : Type 0
  W = View E B

  abbrev St : Type 0
  St = State (Option T) W

  abbrev Rule : St → Type 0
  Rule = IsOrderly entries base

  abbrev M : Type 0
  M = Me (Option T) W

  -- a seat has a new view and an act that keep the rule, where the word becomes n
  abbrev pub Picks : St → ℕ → ℕ → M → (M → Type 0) → ℕ → Type 0
  Picks s word id m then n = (w : W) × (a : Act (Option T)) × Valid s.homes m.1 a × Rule (stepped s word n id m.1 w a) × then (w, carried_after m.1 a)

  pub views_stay : (P : ℕ → W → Type 0) (vs : List W) (me : ℕ) (w : W) → P me w → ((j : ℕ) (u : W) → j ≢ me → get_elem? vs j ≡ some u → P j u)
      → (j : ℕ) (u : W) → get_elem? (set vs me w) j ≡ some u → P j u
  views_stay P vs me w mine others j u e = ⊎_elim (λ (t : (j ≡ me) × (w ≡ u)). subst (λ (x : ℕ × W). P x.0 x.1) (λ i. (sym t.0 i, t.1 i)) mine)
      (λ (t : (j ≢ me) × (get_elem? vs j ≡ some u)). others j u t.0 t.1) (at_set vs me j w u e)

  -- a step of the seat `me`, whose view v becomes w
  pub rekept : (s : St) (r : Rule s) (me : ℕ) (v w : W) → get_elem? s.views me ≡ some v → (ws : List ℕ) (hs : List (mathlib.Core.Option.Option (Option T))) (ticket serving : ℕ) (history : List E) (holder : ℕ → ℕ) (bank : ℕ)
      → ws ≡ ticket ∷ serving ∷ length history ∷ bank ∷ [] → ticket < 2 ^ 64 → serving ≤ ticket
      → r.ticket ≤ ticket → (serving ≡ r.serving) ⊎ ((serving ≡ r.serving + 1) × (r.holder r.serving ≡ me)) → (r.history ≡ history) ⊎ (r.holder r.serving ≡ me) → IsPrefix r.history history → ((t : ℕ) → t < r.ticket → holder t ≡ r.holder t)
      → ViewHolds ticket serving history r.root holder me w
      → ((place : ℕ) → times place w.own + once_below place (length r.history) ≡ times place v.own + once_below place (length history)) → w.weight + bank ≡ v.weight + r.bank
      → IsHome entries base history r.root record { words = ws; homes = hs; views = set s.views me w } ⊎ IsOut entries base record { words = ws; homes = hs; views = set s.views me w }
      → Rule record { words = ws; homes = hs; views = set s.views me w }
  rekept s r me v w at ws hs ticket serving history holder bank words bounded ordered more next same grows held mine own weight slot = record {
    ticket = ticket;
    serving = serving;
    history = history;
    root = r.root;
    holder = holder;
    bank = bank;
    words = words;
    bounded = bounded;
    ordered = ordered;
    each_view = views_stay (ViewHolds ticket serving history r.root holder) s.views me w mine (λ j u other there. let old = r.each_view j u there in record {
      begins = prefix_trans u.seen r.history history old.begins grows;
      carries = old.carries;
      stage_holds = others_hold r.ticket r.serving ticket serving r.history history r.holder holder j u.stage more
          (⊎_elim (λ (e : serving ≡ r.serving). inl e) (λ (e : (serving ≡ r.serving + 1) × (r.holder r.serving ≡ me)). inr (e.0, λ is. other (sym is ∙ e.1))) next)
          (⊎_elim (λ (e : r.history ≡ history). inl e) (λ (e : r.holder r.serving ≡ me). inr (λ is. other (sym is ∙ e))) same) grows held old.stage_holds;
      weightless = old.weightless;
    });
    owned = λ place. let changed = total-set (λ (u : W). times place u.own) s.views me v w at in let mine_grew = own place in let before = r.owned place in omega arith;
    weighed = let changed = total-set (λ (u : W). u.weight) s.views me v w at in let before = r.weighed in omega arith;
    slot = slot;
  }

  pub same_view : (s : St) (i j : ℕ) (v w : W) → i ≡ j → get_elem? s.views i ≡ some v → get_elem? s.views j ≡ some w → v ≡ w
  same_view s i j v w e a b = some-injective v w (sym a ∙ (ap (get_elem? s.views) e ∙ b))

  -- the slot stays where it is, where the view has no turn before and after
  pub slot_stays : (s : St) (history : List E) (root : B) (me : ℕ) (v w : W) (ws : List ℕ) → get_elem? s.views me ≡ some v → ¬ (HasTurn v.stage) → ¬ (HasTurn w.stage)
      → IsHome entries base history root s ⊎ IsOut entries base s
      → IsHome entries base history root record { words = ws; homes = s.homes; views = set s.views me w } ⊎ IsOut entries base record { words = ws; homes = s.homes; views = set s.views me w }
  slot_stays s history root me v w ws at before after (inl h) = inl record {
    value = h.value;
    home = h.home;
    whole = h.whole;
    based = h.based;
    no_turn = views_stay (λ j u. ¬ (HasTurn u.stage)) s.views me w after (λ j u other there. h.no_turn j u there);
  }
  slot_stays s history root me v w ws at before after (inr o) =
      let other : o.seat ≢ me = λ e. before (subst (λ (u : W). HasTurn u.stage) (same_view s o.seat me o.view v e o.there at) o.turn) in
      inr record { seat = o.seat; view = o.view; there = set_else s.views me o.seat w other ∙ o.there; turn = o.turn; away = o.away }

  -- a step that changes nothing
  pub unmoved : (s : St) (r : Rule s) (i id : ℕ) (v : W) (cs : List (ℕ × Option T)) → get_elem? s.views id ≡ some v → Rule (stepped s i (get_or s.words i 0) id cs v keeps)
  unmoved s r i id v cs at = subst (λ (z : List ℕ × List W). Rule record { words = z.0; homes = s.homes; views = z.1 }) (λ k. (sym (set-get_or s.words i 0) k, sym (set_again s.views id v at) k)) r

  -- what holds of a stage that is known
  pub stage_at : (s : St) (r : Rule s) (id : ℕ) (v : W) (now : Stage E) → get_elem? s.views id ≡ some v → v.stage ≡ now → StageHolds r.ticket r.serving r.history r.holder id now
  stage_at s r id v now at is = subst (StageHolds r.ticket r.serving r.history r.holder id) is (r.each_view id v at).stage_holds

  -- while a seat has the turn, the slot is out
  pub away_at : (s : St) (r : Rule s) (id : ℕ) (v : W) (t : ℕ) (l : List E) → get_elem? s.views id ≡ some v → v.stage ≡ Turn t l → get_elem? s.homes 0 ≡ some none
  away_at s r id v t l at is = ⊎_elim (λ (h : IsHome entries base r.history r.root s). absurd (h.no_turn id v at (subst (λ (z : Stage E). HasTurn z) (sym is) tt))) (λ (o : IsOut entries base s). o.away) r.slot

  pub no_turn : (v : W) (now : Stage E) → v.stage ≡ now → ¬ (HasTurn now) → ¬ (HasTurn v.stage)
  no_turn v now is not_now turn = not_now (subst (λ (z : Stage E). HasTurn z) is turn)
