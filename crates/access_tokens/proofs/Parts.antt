-- The parts of a text between its periods.
use Rattle.std.proofs.Common.{◌≢◌, ◌≡◌, ℕ, List, [], ◌∷◌, ◌++◌, length, ◌≤◌, refl, ap, ◌∙◌, arith}
use Rattle.std.specs.Bool.{⊤}
use Rattle.std.specs.List.{join_with_byte}
use Rattle.std.proofs.lemmas.List.Splits.{length-slice_split, slice_split_none, slice_split_at}
use Rattle.access_tokens.specs.Fields.{parts_of}
use Rattle.access_tokens.specs.Marks.{Lacks}
use Rattle.access_tokens.proofs.MarkLemmas.{is}

-- no field has a period
unfoldable pub EachLacks : List (List ℕ) → Type 0
EachLacks [] = ⊤
EachLacks (field ∷ fields) = Lacks 46 field × EachLacks fields

-- a text is parted at its first period
pub parts_of-parted : (text first second : List ℕ) → text ≡ first ++ 46 ∷ second → Lacks 46 first → parts_of text ≡ first ∷ parts_of second
parts_of-parted text first second whole lacks = ap parts_of whole ∙ slice_split_at (is 46) first 46 second lacks refl

-- a text without one is its only part
pub parts_of-alone : (text : List ℕ) → Lacks 46 text → parts_of text ≡ text ∷ []
parts_of-alone text lacks = slice_split_none (is 46) text lacks

-- the parts of fields that are joined are these fields
pub parts_of-join : (field : List ℕ) (fields : List (List ℕ)) → EachLacks (field ∷ fields)
    → parts_of (join_with_byte 46 (field ∷ fields)) ≡ field ∷ fields
unfolding EachLacks
parts_of-join field [] h = parts_of-alone field h.0
parts_of-join field (next ∷ fields) h =
    parts_of-parted (join_with_byte 46 (field ∷ next ∷ fields)) field (join_with_byte 46 (next ∷ fields)) refl h.0
    ∙ ap (λ parts. field ∷ parts) (parts_of-join next fields h.1)

pub some_parts : (text : List ℕ) → 1 ≤ length (parts_of text)
some_parts text = let count = length-slice_split (is 46) text in omega (arith, count)

-- five parts, taken off one by one
pub taken_off : (p q r s t : List (List ℕ)) (a b c d mac : List ℕ) → p ≡ a ∷ q → q ≡ b ∷ r → r ≡ c ∷ s → s ≡ d ∷ t → t ≡ mac ∷ []
    → p ≡ a ∷ b ∷ c ∷ d ∷ mac ∷ []
taken_off p q r s t a b c d mac h i j k l = cc

-- more than five
pub more_than_five : (p q r s t u : List (List ℕ)) (a b c d e : List ℕ) → p ≡ a ∷ q → q ≡ b ∷ r → r ≡ c ∷ s → s ≡ d ∷ t → t ≡ e ∷ u
    → 1 ≤ length u → length p ≢ 5
more_than_five p q r s t u a b c d e h i j k l more five = omega (arith, ap length h, ap length i, ap length j, ap length k, ap length l)
