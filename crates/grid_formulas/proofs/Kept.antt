-- Readers kept at one node more, or taken from one.
use Rattle.std.proofs.Common.{◌≡◌, ℕ, ◌+◌, ◌<◌, true, List, Option, length, sym, ◌∙◌, ap, arith, inl, inr}
use Rattle.std.proofs.lemmas.Bool.{cases_lt}
use Rattle.std.specs.BTreeSet.{BTreeSet}
use Rattle.std.specs.Prelude.{slice_index}
use Rattle.grid_formulas.specs.Readers.{Grows, IsKeptAt, is_kept}
use Rattle.grid_formulas.proofs.Looks.{place_index}

pub grows_none : (readers : ℕ → Option (BTreeSet ℕ)) → Grows readers readers
grows_none readers n p e = e

pub grows_on : (a b c : ℕ → Option (BTreeSet ℕ)) → Grows a b → Grows b c → Grows a c
grows_on a b c f g n p e = g n p (f n p e)

-- each of a list's nodes
pub kept_all : (readers : ℕ → Option (BTreeSet ℕ)) (nodes : List ℕ) (reader : ℕ) → ((k : ℕ) → k < length nodes → is_kept readers (slice_index nodes k) reader ≡ true) → IsKeptAt readers nodes reader
kept_all readers nodes reader all n e =
    let at = place_index nodes n e in
    ap (λ z. is_kept readers z reader) (sym at.2) ∙ all at.0 at.1

pub kept_more : (nodes : List ℕ) (n reader : ℕ) (before after : ℕ → Option (BTreeSet ℕ)) → ((k : ℕ) → k < n → is_kept before (slice_index nodes k) reader ≡ true) → Grows before after → is_kept after (slice_index nodes n) reader ≡ true → (k : ℕ) → k < n + 1 → is_kept after (slice_index nodes k) reader ≡ true
kept_more nodes n reader before after all grows here k lt =
    elim (cases_lt k n) as (λ _. is_kept after (slice_index nodes k) reader ≡ true) [
      | inl below ↦ grows (slice_index nodes k) reader (all k below)
      | inr above ↦ let same : k ≡ n = omega (arith, lt, above) in ap (λ z. is_kept after (slice_index nodes z) reader) same ∙ here
    ]
