-- Bytes that differ.
use Rattle.std.proofs.Common.{◌≡◌, ℕ, sym, ap, ◌∙◌, refl, arith}
use Rattle.std.specs.Prelude.{bit_or, bit_xor}
use Rattle.std.specs.Int.Bits.{xor_assoc, xor_self, xor_zero_l, xor_zero_r}
use Rattle.std.proofs.lemmas.Nat.{le_or_l, le_or_r}

-- bytes whose xor is 0 are the same
same_byte : (a b : ℕ) → bit_xor a b ≡ 0 → a ≡ b
same_byte a b h =
    let whole : bit_xor (bit_xor a b) b ≡ a = xor_assoc a b b ∙ ap (bit_xor a) (xor_self b) ∙ xor_zero_r a in
    sym whole ∙ ap (λ n. bit_xor n b) h ∙ xor_zero_l b

-- no difference with one byte more: none before, and the bytes are the same
pub no_difference : (before a b : ℕ) → bit_or before (bit_xor a b) ≡ 0 → (before ≡ 0) × (a ≡ b)
no_difference before a b h =
    let first = le_or_l before (bit_xor a b) in
    let second = le_or_r before (bit_xor a b) in
    (omega (arith, h, first), same_byte a b (omega (arith, h, second)))

pub same_so_far : (before a b : ℕ) → before ≡ 0 → a ≡ b → bit_or before (bit_xor a b) ≡ 0
same_so_far before a b none same = rw (none, same, xor_self) refl
