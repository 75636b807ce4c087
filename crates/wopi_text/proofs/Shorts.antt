-- Which of the two kinds of bytes are the ones that are meant.
use Rattle.std.proofs.Common.{◌≡◌, ◌==◌, ℕ, Bool, true, false, List, [], ◌∷◌, refl, sym, ◌∙◌, ap, length, arith}
use Rattle.std.proofs.lemmas.Bool.{eqb-true}
use Rattle.wopi_text.specs.Bytes.{bytes_of}

-- without long ones it is the short ones
pub short_are : (none : Bool) (n : ℕ) (long short : List ℕ) → none ≡ (n == 0) → none ≡ true → n ≡ length long → bytes_of long short ≡ short
unfolding bytes_of
short_are none n [] short is holds long = refl
short_are none n (byte ∷ rest) short is holds long = let zero = eqb-true n 0 (sym is ∙ holds) in absurd (omega (arith, zero, long))

-- with long ones it is these
pub long_are : (none : Bool) (n : ℕ) (long short : List ℕ) → none ≡ (n == 0) → none ≡ false → n ≡ length long → bytes_of long short ≡ long
unfolding bytes_of
long_are none n [] short is holds long = cc (sym holds ∙ is ∙ ap (λ (m : ℕ). m == 0) long)
long_are none n (byte ∷ rest) short is holds long = refl

-- without short ones it is the long ones
pub only_long : (long : List ℕ) → bytes_of long [] ≡ long
unfolding bytes_of
only_long [] = refl
only_long (byte ∷ long) = refl

-- and without long ones the short ones
pub only_short : (long short : List ℕ) → long ≡ [] → bytes_of long short ≡ short
unfolding bytes_of
only_short long short none = ap (λ (l : List ℕ). bytes_of l short) none
