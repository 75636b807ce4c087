-- The digests of the kept files.
use Rattle.std.proofs.Common.{◌≡◌, ◌<◌, ℕ, zero, suc, List, [], ◌∷◌, ◌++◌, length, set, get_or, None, refl, sym, ap, subst, ◌∙◌, arith}
use Rattle.host_core.specs.declared.file.KeptFile.{KeptFile}
use Rattle.host_core.specs.Facts.{AreDigested, IsDigestOf, IsDigested, bare_file, undigested}

-- a file that has none
pub undigested_fits : (k : KeptFile) → k.digest ≡ None → IsDigested k
undigested_fits k e = subst (IsDigestOf k.contents) (sym e) tt

pub digested_at : (files : List KeptFile) (n : ℕ) (k : KeptFile) → AreDigested files → k ≡ get_or files n k → n < length files → IsDigested k
digested_at [] n k all e lt = absurd (omega (arith, lt))
digested_at (f ∷ files) zero k all e lt = subst IsDigested (sym e) all.0
digested_at (f ∷ files) (suc n) k all e lt = digested_at files n k all.1 e (omega (arith, lt))

pub digested_set : (files : List KeptFile) (n : ℕ) (k : KeptFile) → AreDigested files → IsDigested k → AreDigested (set files n k)
digested_set [] n k all own = tt
digested_set (f ∷ files) zero k all own = (own, all.1)
digested_set (f ∷ files) (suc n) k all own = (all.0, digested_set files n k all.1 own)

-- a file that is put back as it was
pub set_back : (files : List KeptFile) (n : ℕ) (k k' : KeptFile) → k ≡ get_or files n k → k' ≡ k → set files n k' ≡ files
set_back [] n k k' e same = refl
set_back (f ∷ files) zero k k' e same = ap (λ (x : KeptFile). x ∷ files) (same ∙ e)
set_back (f ∷ files) (suc n) k k' e same = ap (λ (l : List KeptFile). f ∷ l) (set_back files n k k' e same)

pub digested_push : (files : List KeptFile) (k : KeptFile) → AreDigested files → IsDigested k → AreDigested (files ++ k ∷ [])
digested_push [] k all own = (own, tt)
digested_push (f ∷ files) k all own = (all.0, digested_push files k all.1 own)

pub undigested_set : (files : List KeptFile) (n : ℕ) (k k' : KeptFile) → k ≡ get_or files n k → bare_file k' ≡ bare_file k → undigested (set files n k') ≡ undigested files
undigested_set [] n k k' e same = refl
undigested_set (f ∷ files) zero k k' e same = ap (λ (x : KeptFile). x ∷ undigested files) (same ∙ ap bare_file e)
undigested_set (f ∷ files) (suc n) k k' e same = ap (λ (l : List KeptFile). bare_file f ∷ l) (undigested_set files n k k' e same)
