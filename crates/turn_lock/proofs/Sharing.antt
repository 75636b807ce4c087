-- The steps that split and join seats and move their weight keep the rule.
use Rattle.std.proofs.Common.{◌≡◌, inl, inr, ⊎_elim, ℕ, ◌+◌, ◌-◌, ◌%◌, ◌<◌, ◌^◌, eqb, ltb, List, [], ◌∷◌, ◌++◌, set, length, get_or, Option, refl, ap, sym, ◌∙◌, subst, arith}
use mathlib.Core.Option.{some, none}
use mathlib.Core.List.{IsPrefix}
use lib.ListN.{get_elem?}
use lib.Seq.{set-get_or}
use prog.Atomic.{either}
use Rattle.atomic_table.proofs.Lists.{set_else, at_longer, at_snoc, exchanged}
use Rattle.atomic_table.specs.Table.{State, Me, step, keeps, Allows, Splits, Joins}
use Rattle.turn_lock.specs.declared.view.View.{View}
use Rattle.turn_lock.specs.declared.view.Stage.TheVariants.{Free, Joining}
use Rattle.turn_lock.specs.Places.{total, times, longer}
use Rattle.turn_lock.specs.Turns.{HasTurn, ViewHolds, IsHome, IsOut, IsOrderly, split_view, joined_view, spent_view}
use Rattle.turn_lock.specs.Steps.{with_stage, with_weight, Settles, Lends, Fetches}
use Rattle.turn_lock.proofs.Keeping.{Picks, views_stay, rekept, slot_stays, unmoved, stage_at, no_turn}
use Rattle.turn_lock.proofs.Prefixes.{prefix_self, both_begin, longer_begins}
use Rattle.turn_lock.proofs.Sums.{total-append, total-set, total_one, times-append, once_below-le-one}

module _ {T E B : Type 0} (entries : T → List E) (base : T → B) where
  abbrev W : Type 0
  W = View E B

  abbrev St : Type 0
  St = State (Option T) W

  abbrev M : Type 0
  M = Me (Option T) W

  abbrev Rule : St → Type 0
  Rule = IsOrderly entries base

  total_pair : (f : W → ℕ) (vs : List W) (id : ℕ) (v left right : W) → get_elem? vs id ≡ some v → total f (set vs id left ++ right ∷ []) + f v ≡ total f vs + f left + f right
  total_pair f vs id v left right at = let longer_one = total-append f (set vs id left) (right ∷ []) in let changed = total-set f vs id v left at in omega arith

  -- a seat is cut in two
  pub splits : (id : ℕ) (v : W) → v.stage ≡ Free → 0 < v.weight → Splits Rule id v v (split_view v)
  splits id v free heavy s r at =
      let left : W = v in
      let right : W = split_view v in
      let mine = r.each_view id v at in
      let no = no_turn entries base v Free free (λ h. h) in
      let stay = slot_stays entries base s r.history r.root id v left s.words at no no r.slot in
      let all_hold : (P : ℕ → W → Type 0) → P id left → ((j : ℕ) → P j right) → ((j : ℕ) (u : W) → get_elem? s.views j ≡ some u → P j u) → (j : ℕ) (u : W) → get_elem? (set s.views id left ++ right ∷ []) j ≡ some u → P j u
      = λ P a b old j u e. ⊎_elim (λ (t : get_elem? (set s.views id left) j ≡ some u). views_stay entries base P s.views id left a (λ k x _ there. old k x there) j u t) (λ (t : right ≡ u). subst (P j) t (b j)) (at_snoc (set s.views id left) right u j e) in
      record {
        ticket = r.ticket;
        serving = r.serving;
        history = r.history;
        root = r.root;
        holder = r.holder;
        bank = r.bank;
        words = r.words;
        bounded = r.bounded;
        ordered = r.ordered;
        each_view = all_hold (ViewHolds r.ticket r.serving r.history r.root r.holder)
            record { begins = mine.begins; carries = mine.carries; stage_holds = mine.stage_holds; weightless = λ z. absurd (omega arith) }
            (λ j. record { begins = mine.begins; carries = mine.carries; stage_holds = tt; weightless = λ z. (tt, refl) }) r.each_view;
        owned = λ x. let pair = total_pair (λ (u : W). times x u.own) s.views id v left right at in let before = r.owned x in omega arith;
        weighed = let pair = total_pair (λ (u : W). u.weight) s.views id v left right at in let before = r.weighed in omega arith;
        slot = ⊎_elim
            (λ (h : IsHome entries base r.history r.root record { words = s.words; homes = s.homes; views = set s.views id left }). inl record {
              value = h.value;
              home = h.home;
              whole = h.whole;
              based = h.based;
              no_turn = λ j u e. ⊎_elim (λ (t : get_elem? (set s.views id left) j ≡ some u). h.no_turn j u t) (λ (t : right ≡ u). subst (λ (x : W). ¬ (HasTurn x.stage)) t (λ z. z)) (at_snoc (set s.views id left) right u j e);
            })
            (λ (o : IsOut entries base record { words = s.words; homes = s.homes; views = set s.views id left }). inr record { seat = o.seat; view = o.view; there = at_longer (set s.views id left) (right ∷ []) o.seat o.view o.there; turn = o.turn; away = o.away }) stay;
      }

  -- two seats are joined
  pub joins : (id : ℕ) (v : W) (other : ℕ) (w : W) → v.stage ≡ Free → w.stage ≡ Free → 0 < v.weight → Joins Rule id v other w (joined_view v w) spent_view
  joins id v other w free other_free heavy s r at apart there =
      let both : W = joined_view v w in
      let spent : W = spent_view in
      let vs = set s.views id both in
      let was_there : get_elem? s.views other ≡ some w = sym (set_else s.views id other both apart) ∙ there in
      let mine = r.each_view id v at in
      let its = r.each_view other w was_there in
      let one = slot_stays entries base s r.history r.root id v both s.words at (no_turn entries base v Free free (λ h. h)) (λ h. h) r.slot in
      let two = slot_stays entries base record { words = s.words; homes = s.homes; views = vs } r.history r.root other w spent s.words there (no_turn entries base w Free other_free (λ h. h)) (λ h. h) one in
      record {
        ticket = r.ticket;
        serving = r.serving;
        history = r.history;
        root = r.root;
        holder = r.holder;
        bank = r.bank;
        words = r.words;
        bounded = r.bounded;
        ordered = r.ordered;
        each_view = views_stay entries base (ViewHolds r.ticket r.serving r.history r.root r.holder) vs other spent
            record { begins = (r.history, refl); carries = tt; stage_holds = tt; weightless = λ z. (tt, refl) }
            (λ j u _ e. views_stay entries base (ViewHolds r.ticket r.serving r.history r.root r.holder) s.views id both
            record { begins = longer_begins v.seen w.seen r.history mine.begins its.begins (ltb (length v.seen) (length w.seen)); carries = mine.carries; stage_holds = (mine.begins, its.begins); weightless = λ z. absurd (omega arith) }
            (λ k x _ f. r.each_view k x f) j u e);
        owned = λ x. let f : W → ℕ = λ u. times x u.own in
            let grown = total-set f s.views id v both at in let gone = total-set f vs other w spent there in let before = r.owned x in let sum = times-append x v.own w.own in omega arith;
        weighed = let f : W → ℕ = λ u. u.weight in
            let grown = total-set f s.views id v both at in let gone = total-set f vs other w spent there in let before = r.weighed in omega arith;
        slot = two;
      }

  -- one look after a join
  pub settles : (slots id : ℕ) (m : M) (xs ys : List E) → m.0.stage ≡ Joining xs ys → Allows Rule slots id m 1 (λ n. n) (Settles (step slots 1 0 0 none) m)
  settles slots id m xs ys is s r deep at bound =
      let v : W = m.0 in
      let w : W = with_stage v Free in
      let mine = r.each_view id v at in
      let holds = stage_at entries base s r id v (Joining xs ys) at is in (
        w,
        keeps,
        tt,
        subst (λ (ws : List ℕ). Rule record { words = ws; homes = s.homes; views = set s.views id w }) (sym (set-get_or s.words 1 0))
            (rekept entries base s r id v w at s.words s.homes r.ticket r.serving r.history r.holder r.bank r.words r.bounded r.ordered (omega arith) (inl refl) (inl refl) (prefix_self r.history) (λ k b. refl)
            record { begins = mine.begins; carries = mine.carries; stage_holds = tt; weightless = λ z. (tt, (mine.weightless z).1) }
            (λ x. refl) refl
            (slot_stays entries base s r.history r.root id v w s.words at (no_turn entries base v (Joining xs ys) is (λ h. h)) (λ h. h) r.slot)),
        record {
          free = refl;
          distinct = λ x. let f : W → ℕ = λ u. times x u.own in let one = total_one f s.views id v at in let all = r.owned x in let least = once_below-le-one x (length r.history) in omega arith;
          bounded = let one = total_one (λ (u : W). u.weight) s.views id v at in let all = r.weighed in omega arith;
          begin = λ xs' ys' is'.
              let e : Joining xs ys ≡ Joining xs' ys' = sym is ∙ is' in
              let xx : xs ≡ xs' = cc in
              let yy : ys ≡ ys' = cc in
              subst (λ (z : List E × List E). IsPrefix z.0 (longer z.0 z.1) × IsPrefix z.1 (longer z.0 z.1)) (λ k. (xx k, yy k))
              (both_begin xs ys r.history holds.0 holds.1 (ltb (length xs) (length ys)) refl);
        },
      )

  -- weight is lent
  pub lends : (slots id : ℕ) (m : M) (k : ℕ) → m.0.stage ≡ Free → k < m.0.weight → Allows Rule slots id m 3 (λ n. (n + k) % 2 ^ 64) (Lends (step slots 3 k 0 none) m)
  lends slots id m k free less s r deep at bound =
      let v : W = m.0 in
      let w : W = with_weight v (v.weight - k) in
      let mine = r.each_view id v at in
      let found : get_or s.words 3 0 ≡ r.bank = ap (λ ws. get_or ws 3 0) r.words in
      let one = total_one (λ (u : W). u.weight) s.views id v at in
      let all = r.weighed in
      let next : (get_or s.words 3 0 + k) % 2 ^ 64 ≡ r.bank + k = omega arith in
      let no = no_turn entries base v Free free (λ h. h) in (
        w,
        keeps,
        tt,
        rekept entries base s r id v w at (set s.words 3 ((get_or s.words 3 0 + k) % 2 ^ 64)) s.homes r.ticket r.serving r.history r.holder (r.bank + k)
            (ap (λ ws. set ws 3 ((get_or s.words 3 0 + k) % 2 ^ 64)) r.words ∙ ap (λ (z : ℕ). r.ticket ∷ r.serving ∷ length r.history ∷ z ∷ []) next) r.bounded r.ordered (omega arith) (inl refl) (inl refl) (prefix_self r.history) (λ _ _. refl)
            record { begins = mine.begins; carries = mine.carries; stage_holds = mine.stage_holds; weightless = λ z. absurd (omega arith) }
            (λ x. refl) (omega arith)
            (slot_stays entries base s r.history r.root id v w (set s.words 3 ((get_or s.words 3 0 + k) % 2 ^ 64)) at no no r.slot),
        refl,
      )

  -- weight is fetched
  pub fetches : (slots id : ℕ) (m : M) (old new : ℕ) → m.0.stage ≡ Free → new < old → Allows Rule slots id m 3 (λ n. either (eqb n old) new n) (Fetches (step slots 3 old new none) m)
  fetches slots id m old new free less s r deep at bound =
      let v : W = m.0 in
      let mine = r.each_view id v at in
      let found : get_or s.words 3 0 ≡ r.bank = ap (λ ws. get_or ws 3 0) r.words in
      let no = no_turn entries base v Free free (λ h. h) in
      exchanged (get_or s.words 3 0) old new (Picks entries base s 3 id m (Fetches (step slots 3 old new none) m (get_or s.words 3 0)))
      (λ hit. (
        with_weight v (v.weight + (old - new)),
        keeps,
        tt,
        rekept entries base s r id v (with_weight v (v.weight + (old - new))) at (set s.words 3 new) s.homes r.ticket r.serving r.history r.holder new
            (ap (λ ws. set ws 3 new) r.words) r.bounded r.ordered (omega arith) (inl refl) (inl refl) (prefix_self r.history) (λ _ _. refl)
            record { begins = mine.begins; carries = mine.carries; stage_holds = mine.stage_holds; weightless = λ z. absurd (omega arith) }
            (λ x. refl) (omega arith)
            (slot_stays entries base s r.history r.root id v (with_weight v (v.weight + (old - new))) (set s.words 3 new) at no no r.slot),
        (λ e. refl, λ ne. absurd (ne hit)),
      ))
      (λ miss. (v, keeps, tt, unmoved entries base s r 3 id v m.1 at, (λ e. absurd (miss e), λ ne. refl)))
