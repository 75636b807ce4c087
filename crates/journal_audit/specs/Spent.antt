-- Spent ids of many files, each by the file's number and its bytes. (Own.)
use Rattle.std.specs.Prelude.{◌≡◌, ℕ, ◌≤◌, Bool, true, false, ◌&&◌, ◌||◌, IsTrue, List, [], ◌∷◌, ◌++◌, Option, None, Some, map, nat_lt, nat_eq, bytes_eq, if◌then◌else◌}
use Rattle.std.specs.Ordering.{on, eq_of_both}
use Rattle.std.specs.Hash as fed
use Rattle.std.specs.Cmp.Lexicographic.{bytes_decides}
use Rattle.std.specs.HashMap.{HashMap, get}
use Rattle.std.proofs.Common.{ap, refl, ◌∙◌}
use Rattle.std.proofs.lemmas.Bool.{eqb-true}
use Rattle.wopi_model.specs.declared.locks.Spent.{Spent}
pub use Rattle.kept_locks.specs.Refusals.{ends_after, later_of}
use Rattle.journal_audit.specs.declared.spent.SpentOn.{SpentOn}

abbrev pub file_of : SpentOn → ℕ
file_of one = one.file

abbrev pub id_of : SpentOn → List ℕ
id_of one = one.id

-- the same id on the same file
abbrev pub is_same : SpentOn → SpentOn → Bool
is_same = eq_of_both (on file_of nat_eq) (on id_of bytes_eq)

-- what is hashed: the file's number, and then the bytes
abbrev pub fed_of : SpentOn → List (List ℕ)
fed_of one = fed.u32 one.file ++ (one.id ∷ [])

both : (a b : Bool) → a && b ≡ true → (a ≡ true) × (b ≡ true)
both true true e = (refl, refl)
both true false e = absurd (cc (e))
both false b e = absurd (cc (e))

pub same_parts : (one other : SpentOn) → is_same one other ≡ true → (one.file ≡ other.file) × (one.id ≡ other.id)
same_parts one other e =
    let parts = both (nat_eq one.file other.file) (bytes_eq one.id other.id) e in
    (eqb-true one.file other.file parts.0, (bytes_decides one.id other.id).0 parts.1)

pub fed_alike : (one other : SpentOn) → IsTrue (is_same one other) → fed_of one ≡ fed_of other
fed_alike one other e =
    let parts = same_parts one other e in
    ap (λ file. fed.u32 file ++ (one.id ∷ [])) parts.0 ∙ ap (λ (id : List ℕ). fed.u32 other.file ++ (id ∷ [])) parts.1

-- the id is refused on the file at that moment
abbrev pub refused_in : {S : Type 0} → HashMap SpentOn ℕ S → ℕ → List ℕ → ℕ → Bool
refused_in ids file id now = ends_after now (get is_same ids (record { file = file; id = id }))

-- file, id and end, each file and id once
abbrev pub Ends : Type 0
Ends = List ((ℕ × List ℕ) × ℕ)

abbrev pub pairs_of : {S : Type 0} → HashMap SpentOn ℕ S → Ends
pairs_of ids = map (λ one. ((one.0.file, one.0.id), one.1)) ids.entries

-- until when the id is refused on the file
abbrev pub end_of : Ends → ℕ → List ℕ → Option ℕ
end_of [] file id = None
end_of (one ∷ rest) file id = if nat_eq file one.0.0 && bytes_eq id one.0.1 then Some one.1 else end_of rest file id

abbrev pub refuses : Ends → ℕ → List ℕ → ℕ → Bool
refuses spent file id now = ends_after now (end_of spent file id)

-- that id is spent until after that moment
abbrev pub ends : Option Spent → List ℕ → ℕ → Bool
ends None id now = false
ends (Some one) id now = bytes_eq one.id id && nat_lt now one.until

-- one more id is refused on a file, and all else is as it was
abbrev pub Spends : Ends → Ends → ℕ → Option Spent → Type 0
Spends old new file one = (on : ℕ) (id : List ℕ) (now : ℕ) → refuses new on id now ≡ (nat_eq file on && ends one id now) || refuses old on id now

-- the same ids are refused from that moment on
abbrev pub IsLater : Ends → Ends → ℕ → Type 0
IsLater old new moment = (on : ℕ) (id : List ℕ) (now : ℕ) → moment ≤ now → refuses new on id now ≡ refuses old on id now
