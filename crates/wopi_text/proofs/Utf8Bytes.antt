-- The numbers of a text's bytes are below 256.
use Rattle.std.proofs.Common.{◌≡◌, ℕ, zero, suc, ◌<◌, Bool, true, false, cond, nat_lt, List, [], ◌∷◌, ◌++◌, IsUtf8, refl, subst, arith, inl, inr, ltb-true}
use Rattle.std.proofs.lemmas.Bool.{and_parts}
use Rattle.std.specs.Bool.{⊤}
use Rattle.hex.specs.Hex.{IsBytes}
use lib.Utf8.{scalar, scalars, encode, encodes, scalar_cases}

abbrev Small : List ℕ → Type 0
Small [] = ⊤
Small (b ∷ bs) = (b < 256) × Small bs

Small-append : (xs ys : List ℕ) → Small xs → Small ys → Small (xs ++ ys)
Small-append [] ys _ h = h
Small-append (x ∷ xs) ys g h = (g.0, Small-append xs ys g.1 h)

on_cond : (b : Bool) (x y : List ℕ) → (b ≡ true → Small x) → (b ≡ false → Small y) → Small (cond b x y)
on_cond true x y f g = f refl
on_cond false x y f g = g refl

top : (c : ℕ) → scalar c ≡ true → c < 1114112
top c h = elim (scalar_cases c h) [ inl low ↦ omega arith | inr high ↦ high.1 ]

Small-encode : (c : ℕ) → scalar c ≡ true → Small (encode c)
unfolding encode
Small-encode c h =
    on_cond (nat_lt c 128) _ _ (λ e. (let l = ltb-true c 128 e in omega (arith, l), tt))
    (λ _. on_cond (nat_lt c 2048) _ _ (λ e. (let l = ltb-true c 2048 e in omega (arith, l), (omega arith, tt)))
    (λ _. on_cond (nat_lt c 65536) _ _ (λ e. (let l = ltb-true c 65536 e in omega (arith, l), (omega arith, (omega arith, tt))))
    (λ _. (let l = top c h in omega (arith, l), (omega arith, (omega arith, (omega arith, tt)))))))

Small-encodes : (cs : List ℕ) → scalars cs ≡ true → Small (encodes cs)
Small-encodes [] h = tt
Small-encodes (c ∷ cs) h =
    let p = and_parts _ _ h in Small-append (encode c) (encodes cs) (Small-encode c p.0) (Small-encodes cs p.1)

IsBytes-Small : (bs : List ℕ) → Small bs → IsBytes bs
IsBytes-Small [] h i = omega arith
IsBytes-Small (b ∷ bs) h zero = h.0
IsBytes-Small (b ∷ bs) h (suc i) = IsBytes-Small bs h.1 i

pub IsBytes-IsUtf8 : (bs : List ℕ) → IsUtf8 bs → IsBytes bs
IsBytes-IsUtf8 bs h = subst IsBytes h.1.1 (IsBytes-Small (encodes h.0) (Small-encodes h.0 h.1.0))
