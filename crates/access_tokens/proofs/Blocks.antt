-- Blocks that are filled with zeros.
use Rattle.std.proofs.Common.{◌≡◌, ℕ, zero, suc, ◌-◌, ◌<◌, ◌≤◌, List, length, get_or, replicate, refl, sym, ◌∙◌, arith, inl, inr, length-append}
use Rattle.std.proofs.lemmas.Bool.{cases_lt}
use Rattle.std.proofs.lemmas.Grind.{same_number_lists}
use Rattle.std.proofs.lemmas.List.{length-replicate}
use Rattle.std.proofs.Math.ListN.{get_or-append}
use Rattle.std.proofs.Math.Seq.{get_or-append_right}
use Rattle.access_tokens.specs.Hmac.{filled}

-- zeros have a zero at each place, and behind them too
pub zero_at : (n k : ℕ) → ◌≡◌ {A = ℕ} (get_or (replicate n 0) k 0) 0
zero_at zero k = refl
zero_at (suc n) zero = refl
zero_at (suc n) (suc k) = zero_at n k

-- a block of these bytes and then zeros
pub filled_by_places : (block bytes : List ℕ) → length block ≡ 64 → length bytes ≤ 64
    → ((k : ℕ) → k < length bytes → get_or block k 0 ≡ get_or bytes k 0)
    → ((k : ℕ) → length bytes ≤ k → get_or block k 0 ≡ 0)
    → block ≡ filled bytes
filled_by_places block bytes sized short front zeros =
    let len = length-append bytes (replicate (64 - length bytes) 0) in
    let rest = length-replicate {A = ℕ} (64 - length bytes) 0 in
    same_number_lists block (filled bytes) (omega (arith, len, rest)) (λ k h. elim (cases_lt k (length bytes)) [
      | inl below ↦ front k below ∙ sym (get_or-append bytes (replicate (64 - length bytes) 0) 0 k below)
      | inr above ↦ zeros k above ∙ sym (get_or-append_right bytes (replicate (64 - length bytes) 0) k 0 above ∙ zero_at (64 - length bytes) (k - length bytes))
    ])
