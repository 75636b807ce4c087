-- A chain that is taken apart while another one is made of its ids.
use Rattle.std.proofs.Common.{◌≡◌, ◌≢◌, ◌⊎◌, inl, inr, ◌≤◌, ℕ, suc, Bool, true, false, List, [], ◌∷◌, length, Option, None, Some, refl, sym, ap, subst, ◌∙◌, arith, if◌then◌else◌}
use Rattle.std.specs.Prelude.{nat_lt}
use Rattle.wopi_model.specs.Settle.{still_spent}
use Rattle.wopi_model.specs.declared.locks.Spent.{Spent}
use Rattle.expiry_queue.specs.Chains.{Chains, Becomes, IsLive, spent_of}
use Rattle.kept_locks.specs.Refusals.{onto}
use Rattle.kept_locks.proofs.Tying.{live_other, none_other, same_other, same_or_other}

-- a chain of the first table is now two, and the others stay
pub record Parts (first now : Chains) (chain rest kept : Option ℕ) : Type 0 where
  pub live_rest : IsLive now rest
  pub live_kept : IsLive now kept
  pub differ : rest ≡ kept → rest ≡ None
  pub lives : (other : Option ℕ) → IsLive first other → other ≢ chain → IsLive now other
  pub stays : (other : Option ℕ) → IsLive first other → other ≢ chain → spent_of now other ≡ spent_of first other
  pub off_rest : (other : Option ℕ) → IsLive first other → other ≢ chain → other ≡ rest → other ≡ None
  pub off_kept : (other : Option ℕ) → IsLive first other → other ≢ chain → other ≡ kept → other ≡ None

pub parts_start : (first : Chains) (chain : Option ℕ) → IsLive first chain → Parts first first chain chain None
parts_start first chain live = record {
  live_rest = live;
  live_kept = tt;
  differ = λ e. e;
  lives = λ other here away. here;
  stays = λ other here away. refl;
  off_rest = λ other here away e. absurd (away e);
  off_kept = λ other here away e. e;
}

swapped : (first now : Chains) (chain rest kept : Option ℕ) → Parts first now chain rest kept → Parts first now chain kept rest
swapped first now chain rest kept p = record {
  live_rest = p.live_kept;
  live_kept = p.live_rest;
  differ = λ e. e ∙ p.differ (sym e);
  lives = p.lives;
  stays = p.stays;
  off_rest = p.off_kept;
  off_kept = p.off_rest;
}

other_of : (one two : Option ℕ) → (one ≡ two → one ≡ None) → (one ≢ two) ⊎ (one ≡ None)
other_of None two h = inr refl
other_of (Some place) two h = inl (λ e. absurd (cc (h e)))

-- the first of the two became another one
pub part_taken : (first now next : Chains) (chain rest kept result : Option ℕ) (spent : List Spent) → Parts first now chain rest kept → Becomes now.cells next.cells rest result spent
    → Parts first next chain result kept × (spent_of next kept ≡ spent_of now kept)
part_taken first now next chain rest kept result spent p b = (
  record {
    live_rest = b.live;
    live_kept = live_other now next rest result kept spent b p.live_kept side;
    differ = λ e. e ∙ none_other now next rest result kept spent b p.live_kept side (sym e);
    lives = λ other here away. live_other now next rest result other spent b (p.lives other here away) (off other here away);
    stays = λ other here away. same_other now next rest result other spent b (p.lives other here away) (off other here away) ∙ p.stays other here away;
    off_rest = λ other here away e. none_other now next rest result other spent b (p.lives other here away) (off other here away) e;
    off_kept = p.off_kept;
  },
  same_other now next rest result kept spent b p.live_kept side,
)
  where
    side : (kept ≢ rest) ⊎ (kept ≡ None)
    side = other_of kept rest (λ e. e ∙ p.differ (sym e))

    off : (other : Option ℕ) → IsLive first other → other ≢ chain → (other ≢ rest) ⊎ (other ≡ None)
    off other here away = other_of other rest (p.off_rest other here away)

-- and so did the second one
pub part_added : (first now next : Chains) (chain rest kept result : Option ℕ) (spent : List Spent) → Parts first now chain rest kept → Becomes now.cells next.cells kept result spent
    → Parts first next chain rest result × (spent_of next rest ≡ spent_of now rest)
part_added first now next chain rest kept result spent p b =
    let (parts, same) = part_taken first now next chain kept rest result spent (swapped first now chain rest kept p) b in
    (swapped first next chain result rest parts, same)

-- where nothing is left of the one, the chain became the other
pub parts_end : (first now : Chains) (chain rest kept : Option ℕ) → Parts first now chain rest kept → Becomes first.cells now.cells chain kept (spent_of now kept)
parts_end first now chain rest kept p = record {
  spent_is = refl;
  live = p.live_kept;
  stays = p.stays;
  lives = p.lives;
  apart = apart;
}
  where
    apart : (other : Option ℕ) → IsLive first other → other ≡ kept → (other ≡ chain) ⊎ (other ≡ None)
    apart None here e = inr refl
    apart (Some place) here e = elim (same_or_other place chain) [
      | inl same ↦ inl same
      | inr away ↦ inr (p.off_kept (Some place) here away e)
    ]

-- the ids turned over twice are the ids
pub onto_onto : (ids kept : List Spent) → onto (onto ids kept) [] ≡ onto kept ids
onto_onto [] kept = refl
onto_onto (one ∷ ids) kept = onto_onto ids (one ∷ kept)

-- an id goes from the one list to the other, or is over
pub sifted_kept : (one : Spent) (rest kept : List Spent) (now : ℕ) → nat_lt now one.until ≡ true → onto (one ∷ kept) (still_spent rest now) ≡ onto kept (still_spent (one ∷ rest) now)
sifted_kept one rest kept now is = sym (ap (λ b. onto kept (if b then one ∷ still_spent rest now else still_spent rest now)) is)

pub sifted_over : (one : Spent) (rest kept : List Spent) (now : ℕ) → nat_lt now one.until ≡ false → onto kept (still_spent rest now) ≡ onto kept (still_spent (one ∷ rest) now)
sifted_over one rest kept now is = sym (ap (λ b. onto kept (if b then one ∷ still_spent rest now else still_spent rest now)) is)

fewer_one : (one : Spent) (ids : List Spent) (now : ℕ) (b : Bool) → length (still_spent ids now) ≤ length ids → length (if b then one ∷ still_spent ids now else still_spent ids now) ≤ length (one ∷ ids)
fewer_one one ids now true rest = omega (arith, rest)
fewer_one one ids now false rest = omega (arith, rest)

pub fewer_still : (ids : List Spent) (now : ℕ) → length (still_spent ids now) ≤ length ids
fewer_still [] now = omega arith
fewer_still (one ∷ ids) now = fewer_one one ids now (nat_lt now one.until) (fewer_still ids now)

-- the first id was taken out of the one chain
pub record Taken (first now mid : Chains) (chain rest kept after : Option ℕ) (one : Spent) : Type 0 where
  pub parts : Parts first mid chain after kept
  pub kept_is : spent_of mid kept ≡ spent_of now kept
  pub rest_is : spent_of now rest ≡ one ∷ spent_of mid after
  pub longer : length (spent_of now rest) ≡ suc (length (spent_of mid after))
  pub kept_long : length (spent_of mid kept) ≡ length (spent_of now kept)

pub taken_one : (first now mid : Chains) (chain rest kept after : Option ℕ) (place : ℕ) (one : Spent) → Parts first now chain rest kept → rest ≡ Some place → spent_of now (Some place) ≡ one ∷ spent_of mid after
    → Becomes now.cells mid.cells (Some place) after (spent_of mid after) → Taken first now mid chain rest kept after one
taken_one first now mid chain rest kept after place one p is spent b =
    let q : Parts first now chain (Some place) kept = subst (λ (r : Option ℕ). Parts first now chain r kept) is p in
    let (parts, same) = part_taken first now mid chain (Some place) kept after (spent_of mid after) q b in
    let all : spent_of now rest ≡ one ∷ spent_of mid after = ap (spent_of now) is ∙ spent in
    record { parts = parts; kept_is = same; rest_is = all; longer = ap length all; kept_long = ap length same }

-- and put at the front of the other
pub record Moved (first now next : Chains) (chain rest kept after result : Option ℕ) (one : Spent) : Type 0 where
  pub parts : Parts first next chain after result
  pub kept_is : spent_of next result ≡ one ∷ spent_of now kept
  pub rest_is : spent_of now rest ≡ one ∷ spent_of next after
  pub longer : length (spent_of now rest) ≡ suc (length (spent_of next after))
  pub kept_long : length (spent_of next result) ≡ suc (length (spent_of now kept))

pub moved_one : (first now mid next : Chains) (chain rest kept after result : Option ℕ) (one : Spent) → Taken first now mid chain rest kept after one → Becomes mid.cells next.cells kept result (one ∷ spent_of mid kept)
    → Moved first now next chain rest kept after result one
moved_one first now mid next chain rest kept after result one t b =
    let (parts, same) = part_added first mid next chain after kept result (one ∷ spent_of mid kept) t.parts b in
    let all : spent_of now rest ≡ one ∷ spent_of next after = t.rest_is ∙ ap (λ (l : List Spent). one ∷ l) (sym same) in
    let put : spent_of next result ≡ one ∷ spent_of now kept = b.spent_is ∙ ap (λ (l : List Spent). one ∷ l) t.kept_is in
    record { parts = parts; kept_is = put; rest_is = all; longer = ap length all; kept_long = ap length put }
