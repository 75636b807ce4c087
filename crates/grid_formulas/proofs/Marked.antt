-- Marking cells, and following their readers.
use Rattle.std.proofs.Common.{◌≡◌, ◌≢◌, ℕ, zero, suc, ◌+◌, ◌-◌, ◌/◌, ◌<◌, ◌≤◌, true, List, [], ◌∷◌, ◌++◌, Option, Some, None, length, ◌||◌, refl, sym, ◌∙◌, ap, subst, arith, inl, inr, ◌⊎◌, length-append, zero-add}
use Rattle.std.proofs.lemmas.Bool.{cases_eq, cases_lt}
use Rattle.std.specs.BTreeMap.{is_at}
use Rattle.std.specs.BTreeSet.{BTreeSet}
use Rattle.std.specs.Option.{is_some}
use Rattle.std.specs.Ordering.{nat_cmp}
use Rattle.std.specs.Prelude.{slice_index}
use Rattle.grid_formulas.specs.Marks.{AreMarked, IsClosed, MarksAllReaders, MarksMore, MarksReaders, reads_at}
use Rattle.grid_formulas.specs.Readers.{above, is_kept}
use Rattle.grid_formulas.specs.Places.{has}
use Rattle.grid_formulas.specs.Sheets.{is_in}
use Rattle.grid_formulas.specs.declared.cells.Node.{Node}
use Rattle.grid_formulas.specs.declared.value.Value.{Value}
use Rattle.grid_formulas.specs.declared.value.Value.TheVariants as value
use Rattle.grid_formulas.proofs.Looks.{has_last, has_more, place_index, place_is, quiet_or}
use Rattle.grid_formulas.proofs.Walks.{true_false}

pub marks_none : (after : ℕ → Option Value) (places : List ℕ) → AreMarked after places → MarksMore after places after places
marks_none after places m = record {
  marked = m;
  stays = λ q e. e;
  longer = omega arith;
  same = λ k lt. refl;
}

pub marks_on : (first : ℕ → Option Value) (places : List ℕ) (mid : ℕ → Option Value) (some : List ℕ) (after : ℕ → Option Value) (more : List ℕ) → MarksMore first places mid some → MarksMore mid some after more → MarksMore first places after more
marks_on first places mid some after more a b = record {
  marked = b.marked;
  stays = λ q e. b.stays q (a.stays q e);
  longer = omega (arith, a.longer, b.longer);
  same = λ k lt. let further : k < length some = omega (arith, lt, a.longer) in b.same k further ∙ a.same k lt;
}

-- what stands before the last
front : (xs : List ℕ) (x k : ℕ) → k < length xs → slice_index (xs ++ x ∷ []) k ≡ slice_index xs k
front [] x k lt = absurd (omega arith)
front (y ∷ ys) x zero lt = refl
front (y ∷ ys) x (suc k) lt = let below : k < length ys = omega arith in front ys x k below

last_is : (xs : List ℕ) (x k : ℕ) → k ≡ length xs → slice_index (xs ++ x ∷ []) k ≡ x
last_is [] x zero e = refl
last_is [] x (suc k) e = absurd (omega arith)
last_is (y ∷ ys) x zero e = absurd (omega arith)
last_is (y ∷ ys) x (suc k) e = let below : k ≡ length ys = omega arith in last_is ys x k below

-- one cell more
pub marks_one : (before after : ℕ → Option Value) (places : List ℕ) (place : ℕ) → AreMarked before places → place < 102400000 → after place ≡ Some value.Cycle → ((q : ℕ) → q ≢ place → after q ≡ before q) → MarksMore before places after (places ++ place ∷ [])
marks_one before after places place m small here apart = record {
  marked = record {
    cycles = λ q e. elim (cases_eq q place) as (λ _. after q ≡ Some value.Cycle) [
      | inl same ↦ ap after same ∙ here
      | inr ne ↦ apart q ne ∙ m.cycles q (sym (ap is_some (apart q ne)) ∙ e)
    ];
    listed = λ q e. elim (cases_eq q place) as (λ _. has (places ++ place ∷ []) q ≡ true) [
      | inl same ↦ ap (has (places ++ place ∷ [])) same ∙ has_last places place
      | inr ne ↦ has_more places place q (m.listed q (sym (ap is_some (apart q ne)) ∙ e))
    ];
    small = λ k lt. elim (cases_lt k (length places)) as (λ _. slice_index (places ++ place ∷ []) k < 102400000) [
      | inl below ↦ subst (λ z. z < 102400000) (sym (front places place k below)) (m.small k below)
      | inr above ↦
          let at : k ≡ length places = omega (arith, lt, above, length-append places (place ∷ [])) in
          subst (λ z. z < 102400000) (sym (last_is places place k at)) small
    ];
  };
  stays = λ q e. elim (cases_eq q place) as (λ _. is_in after q ≡ true) [
    | inl same ↦ ap (is_in after) same ∙ ap is_some here
    | inr ne ↦ ap is_some (apart q ne) ∙ e
  ];
  longer = omega (arith, length-append places (place ∷ []));
  same = λ k lt. front places place k lt;
}

pub none_marked : (after : ℕ → Option Value) → ((q : ℕ) → after q ≡ None) → AreMarked after []
none_marked after none = record {
  cycles = λ q e. absurd (true_false (sym e ∙ ap is_some (none q)));
  listed = λ q e. absurd (true_false (sym e ∙ ap is_some (none q)));
  small = λ k lt. absurd (omega arith);
}

-- a reader is one of those left, or was looked at
pub readers_next : (nodes : ℕ → Option Node) (all rest next : List ℕ) (reader place : ℕ) (before : ℕ → Option Value) (places : List ℕ) (after : ℕ → Option Value) (more : List ℕ) → rest ≡ reader ∷ next → ((p : ℕ) → has all p ≡ true → (has rest p ≡ true) ⊎ (reads_at nodes p place ≡ true → p < 102400000 → is_in before p ≡ true)) → MarksMore before places after more → (reads_at nodes reader place ≡ true → reader < 102400000 → is_in after reader ≡ true) → (p : ℕ) → has all p ≡ true → (has next p ≡ true) ⊎ (reads_at nodes p place ≡ true → p < 102400000 → is_in after p ≡ true)
readers_next nodes all rest next reader place before places after more split done m here p e =
    elim (done p e) as (λ _. (has next p ≡ true) ⊎ (reads_at nodes p place ≡ true → p < 102400000 → is_in after p ≡ true)) [
      | inl left ↦
          quiet_or (is_at (nat_cmp p) reader) ((has next p ≡ true) ⊎ (reads_at nodes p place ≡ true → p < 102400000 → is_in after p ≡ true))
          (λ no. inl (sym (ap (λ b. b || has next p) no) ∙ (sym (ap (λ l. has l p) split) ∙ left)))
          (λ yes. inr (subst (λ z. reads_at nodes z place ≡ true → z < 102400000 → is_in after z ≡ true) (place_is p reader yes) here))
      | inr marked ↦ inr (λ r lt. m.stays p (marked r lt))
    ]

pub readers_done : (nodes : ℕ → Option Node) (all rest : List ℕ) (place : ℕ) (after : ℕ → Option Value) → rest ≡ [] → ((p : ℕ) → has all p ≡ true → (has rest p ≡ true) ⊎ (reads_at nodes p place ≡ true → p < 102400000 → is_in after p ≡ true)) → MarksReaders nodes (has all) place after
readers_done nodes all rest place after none done p e r lt =
    elim (done p e) as (λ _. is_in after p ≡ true) [
      | inl left ↦ absurd (true_false (sym left ∙ ap (λ l. has l p) none))
      | inr marked ↦ marked r lt
    ]

-- ---- up the tree

above_stays : (place level more : ℕ) → above level place ≡ 0 → above (more + level) place ≡ 0
unfolding above
above_stays place level zero e = ap (λ z. above z place) (zero-add level) ∙ e
above_stays place level (suc more) e =
    let next : suc more + level ≡ suc (more + level) = omega arith in
    let below = above_stays place level more e in
    ap (λ z. above z place) next ∙ ap (λ z. z / 2) below

nat_cases : (x m : ℕ) → x < suc m → (x < m) ⊎ (x ≡ m)
nat_cases x m lt = elim (cases_lt x m) as (λ _. (x < m) ⊎ (x ≡ m)) [ inl below ↦ inl below | inr above ↦ inr (omega arith) ]

-- what going up has done: the readers below a level are marked
abbrev pub Climbs : (ℕ → Option Node) → (ℕ → Option (BTreeSet ℕ)) → ℕ → ℕ → (ℕ → Option Value) → Type 0
Climbs nodes readers place node after =
    (level : ℕ) × (node ≡ above level place) × ((l : ℕ) → l < level → MarksReaders nodes (is_kept readers (above l place)) place after)

pub climbs_none : (nodes : ℕ → Option Node) (readers : ℕ → Option (BTreeSet ℕ)) (place node : ℕ) (after : ℕ → Option Value) → node ≡ above 0 place → Climbs nodes readers place node after
climbs_none nodes readers place node after e = (0, e, λ l lt. absurd (omega arith))

pub climbs_more : (nodes : ℕ → Option Node) (readers : ℕ → Option (BTreeSet ℕ)) (place node : ℕ) (before : ℕ → Option Value) (places : List ℕ) (after : ℕ → Option Value) (more : List ℕ) → Climbs nodes readers place node before → MarksMore before places after more → MarksReaders nodes (is_kept readers node) place after → Climbs nodes readers place (node / 2) after
unfolding above
climbs_more nodes readers place node before places after more c m here = (
  suc c.0,
  ap (λ z. z / 2) c.1,
  λ l lt.
      elim (nat_cases l c.0 lt) as (λ _. MarksReaders nodes (is_kept readers (above l place)) place after) [
        | inl below ↦ λ p k r s. m.stays p (c.2 l below p k r s)
        | inr same ↦ subst (λ z. MarksReaders nodes (is_kept readers z) place after) (c.1 ∙ ap (λ z. above z place) (sym same)) here
      ],
)

pub climbs_all : (nodes : ℕ → Option Node) (readers : ℕ → Option (BTreeSet ℕ)) (place node : ℕ) (before : ℕ → Option Value) (places : List ℕ) (after : ℕ → Option Value) (more : List ℕ) → Climbs nodes readers place node before → MarksMore before places after more → MarksReaders nodes (is_kept readers node) place after → node ≡ 0 → MarksAllReaders nodes readers place after
climbs_all nodes readers place node before places after more c m here root l =
    elim (cases_lt l c.0) as (λ _. MarksReaders nodes (is_kept readers (above l place)) place after) [
      | inl below ↦ λ p k r s. m.stays p (c.2 l below p k r s)
      | inr over ↦
          let far : (l - c.0) + c.0 ≡ l = omega (arith, over) in
          let up : above l place ≡ 0 = ap (λ z. above z place) (sym far) ∙ above_stays place c.0 (l - c.0) (sym c.1 ∙ root) in
          subst (λ z. MarksReaders nodes (is_kept readers z) place after) (root ∙ sym up) here
    ]

-- ---- one cell of the list after another

-- the readers of the first cells of the list are marked
abbrev pub Follows : (ℕ → Option Node) → (ℕ → Option (BTreeSet ℕ)) → List ℕ → ℕ → (ℕ → Option Value) → Type 0
Follows nodes readers places done after = (k : ℕ) → k < done → MarksAllReaders nodes readers (slice_index places k) after

pub follows_more : (nodes : ℕ → Option Node) (readers : ℕ → Option (BTreeSet ℕ)) (places : List ℕ) (done : ℕ) (before after : ℕ → Option Value) (more : List ℕ) → Follows nodes readers places done before → done < length places → MarksMore before places after more → MarksAllReaders nodes readers (slice_index places done) after → Follows nodes readers more (done + 1) after
follows_more nodes readers places done before after more f lt m here k below =
    let there : k < length places = omega (arith, below, lt) in
    subst (λ z. MarksAllReaders nodes readers z after) (sym (m.same k there))
    (elim (cases_lt k done) as (λ _. MarksAllReaders nodes readers (slice_index places k) after) [
      | inl earlier ↦ λ l p e r s. m.stays p (f k earlier l p e r s)
      | inr later ↦ let same : k ≡ done = omega (arith, below, later) in subst (λ z. MarksAllReaders nodes readers (slice_index places z) after) (sym same) here
    ])

pub closed : (nodes : ℕ → Option Node) (readers : ℕ → Option (BTreeSet ℕ)) (places : List ℕ) (done : ℕ) (after : ℕ → Option Value) → AreMarked after places → Follows nodes readers places done after → length places ≤ done → IsClosed nodes readers after
closed nodes readers places done after m f all q e =
    let at = place_index places q (m.listed q e) in
    let below : at.0 < done = omega (arith, at.1, all) in
    subst (λ z. MarksAllReaders nodes readers z after) at.2 (f at.0 below)
