-- The keys of the index of spent ids.
use Rattle.std.specs.Prelude.{◌≡◌, ℕ, Bool, true, ◌&&◌, false, IsTrue, List, [], ◌∷◌, ◌++◌, nat_eq, bytes_eq}
use Rattle.std.specs.Ordering.{on, eq_of_both}
use Rattle.std.specs.Hash as fed
use Rattle.std.specs.Cmp.Lexicographic.{bytes_decides}
use Rattle.std.proofs.Common.{ap, refl, ◌∙◌}
use Rattle.std.proofs.lemmas.Bool.{eqb-true}
use Rattle.kept_locks.specs.declared.index.SpentOn.{SpentOn}

abbrev pub file_of : SpentOn → ℕ
file_of one = one.file

abbrev pub id_of : SpentOn → List ℕ
id_of one = one.id

-- the same id on the same file
abbrev pub is_same : SpentOn → SpentOn → Bool
is_same = eq_of_both (on file_of nat_eq) (on id_of bytes_eq)

-- what is hashed: the file's number, and then the bytes
abbrev pub fed_of : SpentOn → List (List ℕ)
fed_of one = fed.u32 one.file ++ (one.id ∷ [])

-- equal keys have the same parts
both : (a b : Bool) → a && b ≡ true → (a ≡ true) × (b ≡ true)
both true true e = (refl, refl)
both true false e = absurd (cc (e))
both false b e = absurd (cc (e))

pub same_parts : (one other : SpentOn) → is_same one other ≡ true → (one.file ≡ other.file) × (one.id ≡ other.id)
same_parts one other e =
    let parts = both (nat_eq one.file other.file) (bytes_eq one.id other.id) e in
    (eqb-true one.file other.file parts.0, (bytes_decides one.id other.id).0 parts.1)

-- so they are hashed alike
pub fed_alike : (one other : SpentOn) → IsTrue (is_same one other) → fed_of one ≡ fed_of other
fed_alike one other e =
    let parts = same_parts one other e in
    ap (λ file. fed.u32 file ++ (one.id ∷ [])) parts.0 ∙ ap (λ (id : List ℕ). fed.u32 other.file ++ (id ∷ [])) parts.1
