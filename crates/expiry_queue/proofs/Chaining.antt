-- A chain that becomes another one, beside the others.
use Rattle.std.proofs.Common.{◌≡◌, ◌≢◌, ◌⊎◌, inl, inr, ◌+◌, ◌<◌, ◌≤◌, ℕ, suc, List, [], ◌∷◌, length, Option, None, Some, refl, sym, ap, subst, ◌∙◌, arith}
use Rattle.std.specs.Prelude.{bytes_eq, nat_lt, ◌&&◌, ◌||◌, Bool, true, false, if◌then◌else◌}
use Rattle.std.proofs.lemmas.Bool.{cases_eq}
use Rattle.wopi_model.specs.Act.{is_spent}
use Rattle.wopi_model.specs.Settle.{still_spent}
use Rattle.wopi_model.specs.declared.locks.Spent.{Spent}
use Rattle.expiry_queue.specs.declared.cells.Cell.{Cell}
use Rattle.expiry_queue.specs.Chains.{Cells, cell_in, spent_at, spent_in, BeginsIn, Becomes, AreLinked}

-- what a cell tells of its rest is what stands there
pub rest_is : (cells : Cells) (place : ℕ) (cell : Cell) → AreLinked cells → cell_in cells place ≡ Some cell → (next : Option ℕ) → cell.next ≡ next → cell.rest.value ≡ spent_in cells next
rest_is cells place cell linked is None e = linked.ends place cell is e
rest_is cells place cell linked is (Some next) e =
    let (behind, there, rest) = linked.follows place next cell is e in
    rest ∙ sym (ap spent_at there)

-- the ids from a cell on
pub spent_step : (cells : Cells) (at : Option ℕ) (place : ℕ) (cell : Cell) → AreLinked cells → at ≡ Some place → cell_in cells place ≡ Some cell → spent_in cells at ≡ cell.spent ∷ spent_in cells cell.next
spent_step cells at place cell linked is found =
    ap (spent_in cells) is ∙ ap spent_at found ∙ ap (λ (l : List Spent). cell.spent ∷ l) (rest_is cells place cell linked found cell.next refl)

none_at : {A : Type 0} (found : Option A) (one : A) → found ≡ None → found ≡ Some one → ⊥
none_at found one none some = absurd (cc (none, some))

-- the tables of a chain that has one more id
module _ (old new : Cells) (key : ℕ) (cell : Cell) (chain : Option ℕ) (linked : AreLinked old) (begins : BeginsIn old chain) (free : cell_in old key ≡ None) (here : cell_in new key ≡ Some cell)
    (others : (other : ℕ) → other ≢ key → cell_in new other ≡ cell_in old other) (next_is : cell.next ≡ chain) (rest_told : cell.rest.value ≡ spent_in old chain) where
  differs : (place : ℕ) (one : Cell) → cell_in old place ≡ Some one → place ≢ key
  differs place one is e = none_at (cell_in old place) one (ap (cell_in old) e ∙ free) is

  kept : (place : ℕ) (one : Cell) → cell_in old place ≡ Some one → cell_in new place ≡ Some one
  kept place one is = others place (differs place one is) ∙ is

  -- a cell of the new table is the new one, or was there
  new_or_old : (place : ℕ) (one : Cell) → cell_in new place ≡ Some one → ((place ≡ key) × (one ≡ cell)) ⊎ (cell_in old place ≡ Some one)
  new_or_old place one is = elim (cases_eq place key) [
    | inl same ↦ let both : Some one ≡ Some cell = sym is ∙ ap (cell_in new) same ∙ here in inl (same, cc)
    | inr other ↦ inr (sym (others place other) ∙ is)
  ]

  -- no cell that was there names the new place
  unnamed : (place : ℕ) (one : Cell) → cell_in old place ≡ Some one → one.next ≢ Some key
  unnamed place one is e =
      let (behind, there, rest) = linked.follows place key one is e in
      none_at (cell_in old key) behind free there

  begins_there : (from : Option ℕ) (place : ℕ) → from ≡ Some place → BeginsIn old from
      → (one : Cell) × (cell_in old place ≡ Some one) × ((other : ℕ) (before : Cell) → cell_in old other ≡ Some before → before.next ≢ Some place)
  begins_there from place e live = subst (BeginsIn old) e live

  not_new : (place : ℕ) → chain ≡ Some place → place ≢ key
  not_new place e same =
      let (one, is, unseen) = begins_there chain place e begins in
      differs place one is same

  pub longer_linked : AreLinked new
  longer_linked = record {
    follows = λ place next one is e. elim (new_or_old place one is) [
      | inl this ↦
          let goes : chain ≡ Some next = sym next_is ∙ sym (ap (λ (c : Cell). c.next) this.1) ∙ e in
          let (behind, there, unseen) = begins_there chain next goes begins in
          (behind, kept next behind there, ap (λ (c : Cell). c.rest.value) this.1 ∙ rest_told ∙ ap (spent_in old) goes ∙ ap spent_at there)
      | inr that ↦
          let (behind, there, rest) = linked.follows place next one that e in
          (behind, kept next behind there, rest)
    ];
    ends = λ place one is e. elim (new_or_old place one is) [
      | inl this ↦
          let goes : chain ≡ None = sym next_is ∙ sym (ap (λ (c : Cell). c.next) this.1) ∙ e in
          ap (λ (c : Cell). c.rest.value) this.1 ∙ rest_told ∙ ap (spent_in old) goes
      | inr that ↦ linked.ends place one that e
    ];
    single = λ place second next one other is there e f. elim (new_or_old place one is) [
      | inl this ↦ elim (new_or_old second other there) [
        | inl also ↦ this.0 ∙ sym also.0
        | inr that ↦
            let goes : chain ≡ Some next = sym next_is ∙ sym (ap (λ (c : Cell). c.next) this.1) ∙ e in
            let (head, at, unseen) = begins_there chain next goes begins in
            absurd (unseen second other that f)
      ]
      | inr that ↦ elim (new_or_old second other there) [
        | inl also ↦
            let goes : chain ≡ Some next = sym next_is ∙ sym (ap (λ (c : Cell). c.next) also.1) ∙ f in
            let (head, at, unseen) = begins_there chain next goes begins in
            absurd (unseen place one that e)
        | inr both ↦ linked.single place second next one other that both e f
      ]
    ];
  }

  pub becomes_longer : Becomes old new chain (Some key) (cell.spent ∷ spent_in old chain)
  becomes_longer = record {
    spent_is = ap spent_at here ∙ ap (λ (l : List Spent). cell.spent ∷ l) rest_told;
    live = (
      cell,
      here,
      λ other before is e. elim (new_or_old other before is) [
        | inl this ↦
            let goes : chain ≡ Some key = sym next_is ∙ sym (ap (λ (c : Cell). c.next) this.1) ∙ e in
            not_new key goes refl
        | inr that ↦ unnamed other before that e
      ],
    );
    stays = λ other live away. stays other live;
    lives = λ other live away. lives other live away;
    apart = λ other live e. apart_from other live e;
  }
    where
      stays : (other : Option ℕ) → BeginsIn old other → spent_in new other ≡ spent_in old other
      stays None live = refl
      stays (Some place) live = ap spent_at (kept place live.0 live.1 ∙ sym live.1)

      lives : (other : Option ℕ) → BeginsIn old other → other ≢ chain → BeginsIn new other
      lives None live away = tt
      lives (Some place) live away = (
        live.0,
        kept place live.0 live.1,
        λ other before is e. elim (new_or_old other before is) [
          | inl this ↦ away (sym e ∙ ap (λ (c : Cell). c.next) this.1 ∙ next_is)
          | inr that ↦ live.2 other before that e
        ],
      )

      apart_from : (other : Option ℕ) → BeginsIn old other → other ≡ Some key → (other ≡ chain) ⊎ (other ≡ None)
      apart_from None live e = inr refl
      apart_from (Some place) live e = let same : place ≡ key = cc in absurd (differs place live.0 live.1 same)

-- the tables of a chain without its first id
module _ (old new : Cells) (place : ℕ) (cell : Cell) (linked : AreLinked old) (begins : BeginsIn old (Some place)) (found : cell_in old place ≡ Some cell) (gone : cell_in new place ≡ None)
    (others : (other : ℕ) → other ≢ place → cell_in new other ≡ cell_in old other) where
  was : (other : ℕ) (one : Cell) → cell_in new other ≡ Some one → (other ≢ place) × (cell_in old other ≡ Some one)
  was other one is = elim (cases_eq other place) [
    | inl same ↦ absurd (none_at (cell_in new other) one (ap (cell_in new) same ∙ gone) is)
    | inr away ↦ (away, sym (others other away) ∙ is)
  ]

  named_stays : (other next : ℕ) (one behind : Cell) → cell_in old other ≡ Some one → one.next ≡ Some next → cell_in old next ≡ Some behind → cell_in new next ≡ Some behind
  named_stays other next one behind is e there =
      others next (λ same. begins.2 other one is (e ∙ ap Some same)) ∙ there

  pub shorter_linked : AreLinked new
  shorter_linked = record {
    follows = λ other next one is e.
        let old_is = (was other one is).1 in
        let (behind, there, rest) = linked.follows other next one old_is e in
        (behind, named_stays other next one behind old_is e there, rest);
    ends = λ other one is e. linked.ends other one (was other one is).1 e;
    single = λ first second next one two is there e f. linked.single first second next one two (was first one is).1 (was second two there).1 e f;
  }

  pub becomes_shorter : Becomes old new (Some place) cell.next cell.rest.value
  becomes_shorter = record {
    spent_is = spent_is cell.next refl;
    live = live cell.next refl;
    stays = stays;
    lives = lives;
    apart = λ other begun e. apart_from other begun e;
  }
    where
      spent_is : (next : Option ℕ) → cell.next ≡ next → spent_in new next ≡ cell.rest.value
      spent_is None e = sym (linked.ends place cell found e)
      spent_is (Some next) e =
          let (behind, there, rest) = linked.follows place next cell found e in
          ap spent_at (named_stays place next cell behind found e there) ∙ sym rest

      live : (next : Option ℕ) → cell.next ≡ next → BeginsIn new next
      live None e = tt
      live (Some next) e =
          let (behind, there, rest) = linked.follows place next cell found e in (
            behind,
            named_stays place next cell behind found e there,
            λ other before is names.
                let (away, old_is) = was other before is in
                away (linked.single other place next before cell old_is found names e),
          )

      stays : (other : Option ℕ) → BeginsIn old other → other ≢ Some place → spent_in new other ≡ spent_in old other
      stays None begun away = refl
      stays (Some at) begun away = ap spent_at (others at (λ same. away (ap Some same)))

      lives : (other : Option ℕ) → BeginsIn old other → other ≢ Some place → BeginsIn new other
      lives None begun away = tt
      lives (Some at) begun away = (begun.0, others at (λ same. away (ap Some same)) ∙ begun.1, λ other before is e. begun.2 other before (was other before is).1 e)

      apart_from : (other : Option ℕ) → BeginsIn old other → other ≡ cell.next → (other ≡ Some place) ⊎ (other ≡ None)
      apart_from None begun e = inr refl
      apart_from (Some at) begun e = absurd (begun.2 place cell found (sym e))

pub no_cells : AreLinked []
no_cells = record {
  follows = λ place next cell is e. absurd (cc (is));
  ends = λ place cell is e. absurd (cc (is));
  single = λ place second next cell other is there e f. absurd (cc (is));
}

not_first : (test : Bool) (rest : List Spent) (id : List ℕ) → test ≡ false → test || is_spent rest id ≡ is_spent rest id
not_first test rest id e = ap (λ b. b || is_spent rest id) e

-- a cell that is not the one
pub id_step : (cells : Cells) (at : Option ℕ) (place : ℕ) (cell : Cell) (id : List ℕ) → AreLinked cells → at ≡ Some place → cell_in cells place ≡ Some cell → bytes_eq cell.spent.id id ≡ false
    → is_spent (spent_in cells at) id ≡ is_spent (spent_in cells cell.next) id
id_step cells at place cell id linked is found other =
    ap (λ (l : List Spent). is_spent l id) (spent_step cells at place cell linked is found) ∙ not_first (bytes_eq cell.spent.id id) (spent_in cells cell.next) id other

passed : (one : Spent) (rest : List Spent) (id : List ℕ) (now : ℕ) (refused : Bool) → nat_lt now one.until ≡ refused → (refused && bytes_eq one.id id) ≡ false
    → is_spent (if refused then one ∷ still_spent rest now else still_spent rest now) id ≡ is_spent (still_spent rest now) id
passed one rest id now true e f = not_first (bytes_eq one.id id) (still_spent rest now) id f
passed one rest id now false e f = refl

pub refused_step : (cells : Cells) (at : Option ℕ) (place : ℕ) (cell : Cell) (id : List ℕ) (now : ℕ) → AreLinked cells → at ≡ Some place → cell_in cells place ≡ Some cell
    → (nat_lt now cell.spent.until && bytes_eq cell.spent.id id) ≡ false → is_spent (still_spent (spent_in cells at) now) id ≡ is_spent (still_spent (spent_in cells cell.next) now) id
refused_step cells at place cell id now linked is found other =
    ap (λ (l : List Spent). is_spent (still_spent l now) id) (spent_step cells at place cell linked is found)
    ∙ passed cell.spent (spent_in cells cell.next) id now (nat_lt now cell.spent.until) refl other

pub shorter : (cells : Cells) (at : Option ℕ) (place : ℕ) (cell : Cell) → AreLinked cells → at ≡ Some place → cell_in cells place ≡ Some cell → length (spent_in cells cell.next) < length (spent_in cells at)
shorter cells at place cell linked is found =
    let one_more : length (spent_in cells at) ≡ suc (length (spent_in cells cell.next)) = ap length (spent_step cells at place cell linked is found) in
    omega (arith, one_more)

counted : (one : Spent) (rest : List Spent) (now : ℕ) (b : Bool) → length (if b then one ∷ still_spent rest now else still_spent rest now) ≡ (if b then 1 else 0) + length (still_spent rest now)
counted one rest now true = omega arith
counted one rest now false = omega arith

pub count_step : (cells : Cells) (at : Option ℕ) (place : ℕ) (cell : Cell) (now : ℕ) → AreLinked cells → at ≡ Some place → cell_in cells place ≡ Some cell
    → length (still_spent (spent_in cells at) now) ≡ (if nat_lt now cell.spent.until then 1 else 0) + length (still_spent (spent_in cells cell.next) now)
count_step cells at place cell now linked is found =
    ap (λ (l : List Spent). length (still_spent l now)) (spent_step cells at place cell linked is found) ∙ counted cell.spent (spent_in cells cell.next) now (nat_lt now cell.spent.until)

fewer_one : (one : Spent) (ids : List Spent) (now : ℕ) (b : Bool) → length (still_spent ids now) ≤ length ids → length (if b then one ∷ still_spent ids now else still_spent ids now) ≤ length (one ∷ ids)
fewer_one one ids now true rest = omega (arith, rest)
fewer_one one ids now false rest = omega (arith, rest)

pub fewer_still : (ids : List Spent) (now : ℕ) → length (still_spent ids now) ≤ length ids
fewer_still [] now = omega arith
fewer_still (one ∷ ids) now = fewer_one one ids now (nat_lt now one.until) (fewer_still ids now)
