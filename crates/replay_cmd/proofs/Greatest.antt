-- The greatest version of the names that were met, and so of all names.
use Rattle.std.proofs.Common.{◌≡◌, ◌⊎◌, ◌≤◌, ◌<◌, ℕ, ◌+◌, ◌-◌, max, zero, suc, List, [], ◌∷◌, ◌++◌, length, take, slice_index_or, Option, None, Some, refl, sym, ap, ◌∙◌, subst, inl, inr, arith}
use Rattle.std.proofs.lemmas.Bool.{cases_lt}
use Rattle.std.specs.List.{Contains, slice_get}
use Rattle.std.specs.Option.{option_map}
use Rattle.std.proofs.lemmas.Option.{slice_get_cases}
use Rattle.wopi_model.specs.File.{File}
use Rattle.wopi_model.specs.Shard.{Shard, Item, Tick, Step, AreNames, at_moment, after_entry, after, begun, opened_shard}
use Rattle.host_core.specs.Entries.{history_of}
use Rattle.host_core.specs.Value.{Book, state_of}
use Rattle.wopi_world.specs.History.{IsNextFirst, greatest}
use Rattle.wopi_world.proofs.Versions.{IsFresh, IsIn, next_first_is}
use Rattle.replay_cmd.specs.Begun.{IsNew}
use Rattle.replay_cmd.specs.Replying.{file_in}
use Rattle.replay_cmd.proofs.Counted.{IsCounted, counted_in, uncounted}
use Rattle.replay_cmd.proofs.Ended.{take_next}

-- there is a name at each place within
pub not_past : {X Y : Type 0} (f : X → Y) (at : Option X) (names : List Y) (place count : ℕ) → option_map f at ≡ slice_get names place → at ≡ None
    → count ≡ length names → place < count → ⊥
not_past f (Some x) names place count found none same within = cc
not_past f None names place count found none same within = elim (slice_get_cases names place).1 [
  | inl there ↦ let is = there.2 in cc
  | inr past ↦ let long = past.0 in omega (arith, long, same, within)
]

greatest_more : (shard : Shard) (names : List (List ℕ)) (name : List ℕ) → greatest shard (names ++ name ∷ []) ≡ max (greatest shard names) (shard.files name).version
greatest_more shard [] name = omega arith
greatest_more shard (one ∷ names) name = let rest = greatest_more shard names name in omega (arith, rest)

-- one name more
pub greatest_next : (shard : Shard) (names : List (List ℕ)) (k : ℕ) (name : List ℕ) (old version : ℕ) → Some name ≡ slice_get names k → version ≡ (shard.files name).version
    → old ≡ greatest shard (take k names) → max old version ≡ greatest shard (take (k + 1) names)
greatest_next shard names k name old version at is so_far =
    let next : suc k ≡ k + 1 = omega arith in
    (λ i. max (so_far i) (is i)) ∙ sym (greatest_more shard (take k names) name)
    ∙ ap (greatest shard) (sym (take_next names k name (sym at))) ∙ ap (λ (n : ℕ). greatest shard (take n names)) next

after_first : (shard : Shard) (items : List Item) → (after shard items).first ≡ shard.first
after_first shard [] = refl
after_first shard (Tick moment ∷ items) = after_first (at_moment shard moment) items
after_first shard (Step entry ∷ items) = after_first (after_entry (at_moment shard entry.moment) entry) items

is_in : (names : List (List ℕ)) (name : List ℕ) → Contains names name → IsIn name names
is_in names name h = found names h.0 h.1 h.2
  where
    found : (names : List (List ℕ)) (n : ℕ) → n < length names → slice_index_or names n name ≡ name → IsIn name names
    found [] n within e = absurd (omega arith)
    found (one ∷ names) zero within e = inl e
    found (one ∷ names) (suc n) within e = inr (found names n (omega arith) e)

no_contents : (contents : Option (List ℕ)) → ((bytes : List ℕ) → contents ≡ Some bytes → ⊥) → contents ≡ None
no_contents None none = refl
no_contents (Some bytes) none = absurd (none bytes refl)

-- the shard has the version of its opening
pub state_first : {F : Type 0} (book : Book F) → (state_of book.begin book.made book.time).first ≡ book.begin.first
state_first book = after_first (begun book.begin) (history_of book.made book.time)

-- one more than the greatest of the names that were met is above all versions
pub next_of_names : {F : Type 0} (book : Book F) (names : List (List ℕ)) → IsNew book.begin → AreNames (state_of book.begin book.made book.time) names
    → IsNextFirst (state_of book.begin book.made book.time) (greatest (state_of book.begin book.made book.time) names + 1)
next_of_names book names new are = next_first_is state names known
  where
    state : Shard
    state = state_of book.begin book.made book.time

    first_is : state.first ≡ book.begin.first
    first_is = after_first (begun book.begin) (history_of book.made book.time)

    known : (name : List ℕ) → IsFresh state.first (state.files name) ⊎ IsIn name names
    known name =
        let file : File = file_in book name in
        let counted : IsCounted book.begin.first file = counted_in book name new in
        elim (cases_lt file.version book.begin.first) [
          | inl below ↦
              let unmet : (book.begin.first ≤ file.version) → ⊥ = λ met. omega (arith, below, met) in
              inl (
                sym (uncounted book.begin.first file counted unmet).0 ∙ ap (λ (n : ℕ). n - 1) (sym first_is),
                no_contents file.contents (λ bytes e. unmet (counted.there bytes e)),
              )
          | inr met ↦ inr (is_in names name ((are.exact name).1 (subst (λ (n : ℕ). n ≤ file.version) (sym first_is) met)))
        ]
