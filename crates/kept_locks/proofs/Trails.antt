-- What is shown of a chain, and what the index tells of it, as time goes on.
use Rattle.std.proofs.Common.{◌≡◌, ◌⊎◌, inl, inr, ◌+◌, ◌<◌, ◌≤◌, ℕ, suc, length, Bool, true, false, ◌&&◌, ◌||◌, cond, if◌then◌else◌, List, [], ◌∷◌, Option, refl, sym, ap, subst, ◌∙◌, arith}
use Rattle.std.specs.Prelude.{nat_lt, bytes_eq, max}
use Rattle.std.proofs.lemmas.Bool.Decides.{nat_tests}
use Rattle.std.proofs.lemmas.Bool.{lt-ltb, ltb-true, ltb-false, eq-eqb}
use Rattle.wopi_model.specs.Act.{is_spent}
use Rattle.wopi_model.specs.Settle.{still_spent}
use Rattle.wopi_model.specs.declared.locks.Spent.{Spent}
use Rattle.wopi_model.proofs.Settling.{still-still}
use Rattle.expiry_queue.specs.Chains.{Chains, Becomes, IsLive, spent_of}
use Rattle.std.specs.HashMap.{HashMap}
use Rattle.kept_locks.specs.declared.index.SpentOn.{SpentOn}
use Rattle.kept_locks.specs.declared.trail.Trail.{Trail}
use Rattle.kept_locks.specs.Refusals.{Goes, HasOnly, Tells, Counts, Notes, Sheds, count_of, refused_by, shown_of}
use Rattle.kept_locks.proofs.Entries.{none_refused, sheds_refused}
use Rattle.kept_locks.proofs.Indexing.{noted as refused_noted}
use Rattle.kept_locks.proofs.Tying.{becomes_both}

-- the ids that are refused late are refused early
pub still_early : (spent : List Spent) (early late : ℕ) → early ≤ late → still_spent (still_spent spent late) early ≡ still_spent spent late
still_early [] early late le = refl
still_early (one ∷ spent) early late le =
    let rest = still_early spent early late le in
    grind (arith, nat_tests)

-- two steps leave what the later of them leaves
pub still_later : (spent : List Spent) (first second : ℕ) → still_spent spent (max first second) ≡ still_spent (still_spent spent first) second
still_later spent first second = by_test (nat_lt second first) refl
  where
    by_test : (b : Bool) → nat_lt second first ≡ b → still_spent spent (max first second) ≡ still_spent (still_spent spent first) second
    by_test true is =
        let lt = ltb-true second first is in
        let is_max : max first second ≡ first = omega (arith, lt) in
        ap (still_spent spent) is_max ∙ sym (still_early spent second first (omega (arith, lt)))
    by_test false is =
        let le = ltb-false second first is in
        let is_max : max first second ≡ second = omega (arith, le) in
        ap (still_spent spent) is_max ∙ sym (still-still spent first second (omega (arith, le)))

-- one more id at the front of what is still refused
pub told_of_one : (one : Spent) (rest : List Spent) (id : List ℕ) (now : ℕ)
    → (bytes_eq one.id id && nat_lt now one.until) || is_spent (still_spent rest now) id ≡ is_spent (still_spent (one ∷ rest) now) id
told_of_one one rest id now = elim (nat_lt now one.until) as (λ b. (bytes_eq one.id id && b) || is_spent (still_spent rest now) id ≡ is_spent (cond b (one ∷ still_spent rest now) (still_spent rest now)) id) [
  | true ↦ elim (bytes_eq one.id id) as (λ b. (b && true) || is_spent (still_spent rest now) id ≡ b || is_spent (still_spent rest now) id) [ true ↦ refl | false ↦ refl ]
  | false ↦ elim (bytes_eq one.id id) as (λ b. (b && false) || is_spent (still_spent rest now) id ≡ is_spent (still_spent rest now) id) [ true ↦ refl | false ↦ refl ]
]

-- a chain that stays
pub stays_so : (chains : Chains) (chain : Option ℕ) → IsLive chains chain → Becomes chains.cells chains.cells chain chain (spent_of chains chain)
stays_so chains chain live = record {
  spent_is = refl;
  live = live;
  stays = λ other here differs. refl;
  lives = λ other here differs. here;
  apart = λ other here e. inl e;
}

-- a chain of which those that are over have gone
pub renamed : (old new : Chains) (chain result : Option ℕ) (spent : List Spent) → Becomes old.cells new.cells chain result spent → Becomes old.cells new.cells chain result (spent_of new result)
renamed old new chain result spent b = record { spent_is = refl; live = b.live; stays = b.stays; lives = b.lives; apart = b.apart }

-- what is shown after a step to a moment that is no earlier, or of a chain that was not purged
pub shown_step : (chains : Chains) (trail : Trail) (now : ℕ) → (trail.purged ≡ false) ⊎ (trail.as_of ≤ now)
    → still_spent (spent_of chains trail.chain) (max trail.as_of now) ≡ still_spent (shown_of chains trail) now
shown_step chains trail now h =
    let all = spent_of chains trail.chain in
    elim h [
      | inl lazy ↦ still_later all trail.as_of now ∙ sym (ap (λ b. still_spent (if b then all else still_spent all trail.as_of) now) lazy)
      | inr le ↦ still_later all trail.as_of now ∙ by_purged (trail.purged) all trail.as_of now le
    ]
  where
    by_purged : (b : Bool) (all : List Spent) (as_of now : ℕ) → as_of ≤ now → still_spent (still_spent all as_of) now ≡ still_spent (if b then all else still_spent all as_of) now
    by_purged true all as_of now le = still-still all as_of now le
    by_purged false all as_of now le = refl

-- an id at the front is shown
pub shown_front : (one : Spent) (rest : List Spent) (as_of : ℕ) (purged : Bool) → (purged ≡ true) ⊎ (as_of < one.until)
    → (if purged then one ∷ rest else still_spent (one ∷ rest) as_of) ≡ one ∷ (if purged then rest else still_spent rest as_of)
shown_front one rest as_of true h = refl
shown_front one rest as_of false (inl e) = absurd (cc (e))
shown_front one rest as_of false (inr lt) = ap (λ b. cond b (one ∷ still_spent rest as_of) (still_spent rest as_of)) (lt-ltb as_of one.until lt)

-- nothing was taken
pub counts_same : (chains : Chains) (chain : Option ℕ) → Counts chains chains chain chain
counts_same chains chain = record { used = refl; room = refl }

pub counts_both : (first second third : Chains) (chain mid result : Option ℕ) → Counts first second chain mid → Counts second third mid result → Counts first third chain result
counts_both first second third chain mid result a b =
    let one = a.used in
    let two = b.used in
    let here = a.room in
    let there = b.room in
    record { used = omega (arith, one, two); room = omega (arith, here, there) }

-- a purged chain that is purged once more
pub step_purged : (old new : Chains) (trail result : Trail) (now : ℕ) → trail.purged ≡ true → result.purged ≡ true → Becomes old.cells new.cells trail.chain result.chain (still_spent (spent_of old trail.chain) now)
    → Counts old new trail.chain result.chain → Goes old new trail result (still_spent (shown_of old trail) now)
step_purged old new trail result now purged is b counts = record {
  becomes = renamed old new trail.chain result.chain (still_spent (spent_of old trail.chain) now) b;
  shows = ap (λ c. if c then spent_of new result.chain else still_spent (spent_of new result.chain) result.as_of) is
      ∙ b.spent_is ∙ sym (ap (λ c. still_spent (if c then spent_of old trail.chain else still_spent (spent_of old trail.chain) trail.as_of) now) purged);
  counts = counts;
}

-- a chain that stays, of which those that are over are shown no longer
pub step_lazy : (chains : Chains) (trail : Trail) (now : ℕ) (told : Bool) (count gone : ℕ) → IsLive chains trail.chain → (trail.purged ≡ false) ⊎ (trail.as_of ≤ now)
    → Goes chains chains trail (record { chain = trail.chain; as_of = max trail.as_of now; purged = false; told = told; count = count; left = gone }) (still_spent (shown_of chains trail) now)
step_lazy chains trail now told count gone live h =
    record { becomes = stays_so chains trail.chain live; shows = shown_step chains trail now h; counts = counts_same chains trail.chain }

pub tells_lazy : (refused : List ℕ → ℕ → Bool) (chains : Chains) (trail result : Trail) → result.told ≡ trail.told → result.chain ≡ trail.chain → trail.as_of ≤ result.as_of → Tells refused chains trail
    → Tells refused chains result
tells_lazy refused chains trail result same chain late tells = λ told id at from.
    let later : trail.as_of ≤ at = omega (arith, from, late) in
    tells (sym same ∙ told) id at later ∙ ap (λ (c : Option ℕ). is_spent (still_spent (spent_of chains c) at) id) (sym chain)

-- a trail that stays
pub goes_same : (chains : Chains) (trail : Trail) → IsLive chains trail.chain → Goes chains chains trail trail (shown_of chains trail)
goes_same chains trail live = record { becomes = stays_so chains trail.chain live; shows = refl; counts = counts_same chains trail.chain }

-- a chain out of which that was taken which is not shown
pub purged_shows : (old new : Chains) (trail result : Trail) → trail.purged ≡ false → result.purged ≡ true
    → Becomes old.cells new.cells trail.chain result.chain (still_spent (spent_of old trail.chain) trail.as_of) → Counts old new trail.chain result.chain → Goes old new trail result (shown_of old trail)
purged_shows old new trail result lazy is b counts = record {
  becomes = renamed old new trail.chain result.chain (still_spent (spent_of old trail.chain) trail.as_of) b;
  shows = ap (λ c. if c then spent_of new result.chain else still_spent (spent_of new result.chain) result.as_of) is
      ∙ b.spent_is ∙ sym (ap (λ c. if c then spent_of old trail.chain else still_spent (spent_of old trail.chain) trail.as_of) lazy);
  counts = counts;
}

-- two steps in turn, the second of which shows what the first shows
pub goes_both : (first second third : Chains) (trail mid result : Trail) (shown : List Spent) → Goes first second trail mid shown → Goes second third mid result (shown_of second mid) → Goes first third trail result shown
goes_both first second third trail mid result shown a b = record {
  becomes = becomes_both first second third trail.chain mid.chain result.chain (spent_of second mid.chain) (spent_of third result.chain) a.becomes b.becomes;
  shows = b.shows ∙ a.shows;
  counts = counts_both first second third trail.chain mid.chain result.chain a.counts b.counts;
}

-- one trail, another one, and a third with an id at its front
pub goes_on : (first second third : Chains) (trail mid result : Trail) (shown : List Spent) (one : Spent) → Goes first second trail mid shown → Goes second third mid result (one ∷ shown_of second mid)
    → Goes first third trail result (one ∷ shown)
goes_on first second third trail mid result shown one a b = record {
  becomes = becomes_both first second third trail.chain mid.chain result.chain (spent_of second mid.chain) (spent_of third result.chain) a.becomes b.becomes;
  shows = b.shows ∙ ap (λ (l : List Spent). one ∷ l) a.shows;
  counts = counts_both first second third trail.chain mid.chain result.chain a.counts b.counts;
}

-- an id came to the front of a chain
pub put_front : (old new : Chains) (ready result : Trail) (one : Spent) → (ready.purged ≡ true) ⊎ (ready.as_of < one.until) → result.purged ≡ ready.purged → result.as_of ≡ ready.as_of
    → Becomes old.cells new.cells ready.chain result.chain (one ∷ spent_of old ready.chain) → new.used ≡ old.used + 1 → new.spare + 1 ≡ old.spare → Goes old new ready result (one ∷ shown_of old ready)
put_front old new ready result one fits purged as_of b used spare =
    let longer : length (spent_of new result.chain) ≡ suc (length (spent_of old ready.chain)) = ap length b.spent_is in
    record {
      becomes = renamed old new ready.chain result.chain (one ∷ spent_of old ready.chain) b;
      shows = ap (λ c. if c then spent_of new result.chain else still_spent (spent_of new result.chain) result.as_of) purged
          ∙ ap (λ n. if ready.purged then spent_of new result.chain else still_spent (spent_of new result.chain) n) as_of
          ∙ ap (λ (l : List Spent). if ready.purged then l else still_spent l ready.as_of) b.spent_is ∙ shown_front one (spent_of old ready.chain) ready.as_of ready.purged fits;
      counts = record { used = omega (arith, used, longer); room = omega (arith, used, spare) };
    }

both_true : (a b : Bool) → a && b ≡ true → (a ≡ true) × (b ≡ true)
both_true true true e = (refl, refl)
both_true true false e = absurd (cc (e))
both_true false b e = absurd (cc (e))

none_counted : (ids : List Spent) → count_of ids ≡ 0 → ids ≡ []
none_counted [] e = refl
none_counted (one ∷ ids) e = absurd (omega (arith, e))

module _ {S : Type 0} (before after : HashMap SpentOn ℕ S) (file : ℕ) where
  -- what is told of a chain is told of it once those that were over earlier have gone
  tells_purged : (old new : Chains) (trail result : Trail) (moment : ℕ) → moment ≤ trail.as_of → result.told ≡ trail.told → result.as_of ≡ trail.as_of → Sheds before after file moment
      → spent_of new result.chain ≡ still_spent (spent_of old trail.chain) moment → Tells (refused_by before file) old trail → Tells (refused_by after file) new result
  tells_purged old new trail result moment le same as_of sheds is tells = λ told id now from.
      let late : trail.as_of ≤ now = omega (arith, from, as_of) in
      let by : moment ≤ now = omega (arith, le, late) in
      sheds_refused before after file moment sheds id now by ∙ tells (sym same ∙ told) id now late
      ∙ sym (ap (λ (l : List Spent). is_spent l id) (ap (λ (l : List Spent). still_spent l now) is ∙ still-still (spent_of old trail.chain) moment now by))

  -- and so it is of one of which nothing is left, whatever was told before
  pub tells_left : (old new : Chains) (trail result : Trail) (moment : ℕ) → moment ≤ trail.as_of → (result.told ≡ true → (trail.told ≡ true) ⊎ (result.count ≡ 0)) → (trail.told ≡ true → result.told ≡ true)
      → result.as_of ≡ trail.as_of → Sheds before after file moment → spent_of new result.chain ≡ still_spent (spent_of old trail.chain) moment → result.count ≡ count_of (spent_of new result.chain)
      → HasOnly after file (spent_of new result.chain) → Tells (refused_by before file) old trail → Tells (refused_by after file) new result
  tells_left old new trail result moment le either kept as_of sheds is count only tells = λ told id now from. elim (either told) [
    | inl had ↦ tells_purged old new trail result moment le (kept had ∙ sym had) as_of sheds is tells told id now from
    | inr none ↦
        let gone = none_counted (spent_of new result.chain) (sym count ∙ none) in
        none_refused after file id now (subst (HasOnly after file) gone only) ∙ sym (ap (λ (l : List Spent). is_spent (still_spent l now) id) gone)
  ]

  -- what is told of a chain and its index, once both have one more id
  pub tells_front : (old new : Chains) (ready result : Trail) (one : Spent) (noted : Bool) → result.told ≡ (ready.told && noted) → result.as_of ≡ ready.as_of → Tells (refused_by before file) old ready
      → (noted ≡ true → Notes before after (record { file = file; id = one.id }) one.until) → spent_of new result.chain ≡ one ∷ spent_of old ready.chain → Tells (refused_by after file) new result
  tells_front old new ready result one noted is_told as_of tells notes is = λ told id now from.
      let parts = both_true ready.told noted (sym is_told ∙ told) in
      let late : ready.as_of ≤ now = omega (arith, from, as_of) in
      refused_noted before after file one.id one.until (notes parts.1) file id now
      ∙ ap (λ b. ((b && bytes_eq one.id id) && nat_lt now one.until) || refused_by before file id now) (eq-eqb file file refl)
      ∙ ap (λ b. (bytes_eq one.id id && nat_lt now one.until) || b) (tells parts.0 id now late)
      ∙ told_of_one one (spent_of old ready.chain) id now
      ∙ sym (ap (λ (l : List Spent). is_spent (still_spent l now) id) is)

-- what is refused of those that are shown
pub shown_later : (b : Bool) (all : List Spent) (as_of now : ℕ) → as_of ≤ now → still_spent all now ≡ still_spent (if b then all else still_spent all as_of) now
shown_later true all as_of now le = refl
shown_later false all as_of now le = sym (still-still all as_of now le)

pub shown_early : (all : List Spent) (as_of now : ℕ) (purged : Bool) → purged ≡ false → now ≤ as_of → still_spent all as_of ≡ still_spent (if purged then all else still_spent all as_of) now
shown_early all as_of now purged lazy le =
    sym (still_early all now as_of le) ∙ sym (ap (λ b. still_spent (if b then all else still_spent all as_of) now) lazy)
