-- The parts of a text between single bytes of one kind: the words of a line, the fields of a token.
use Rattle.std.proofs.Common.{◌≢◌, ◌≡◌, ℕ, Bool, true, false, ◌==◌, List, [], ◌∷◌, length, get_or, take, drop, ◌+◌, ◌≤◌, cond, nat_lt, Option, Some, None, refl, sym, ap, ◌∙◌, arith}
use Rattle.std.specs.Prelude.{All, position, is_some}
use Rattle.std.specs.Bool.{⊤}
use Rattle.std.specs.List.{list_all, join_with_byte, position_or_len}
use Rattle.std.proofs.lemmas.Bool.{eqb-true, ltb-true, lt-ltb, eq-eqb}
use Rattle.std.proofs.lemmas.List.Sums.{AllPass-from_list_all, fails_before_first}
use Rattle.std.proofs.lemmas.List.Splits.{length-slice_split, slice_split_none, slice_split_at, slice_split_first, join_with_byte-slice_split}
use Rattle.line_text.specs.Words.{parts_at}

-- no byte is the mark
unfoldable pub Lacks : ℕ → List ℕ → Type 0
Lacks mark field = All (λ byte. (byte == mark) ≡ false) field

other : (p : ℕ → Bool) (mark byte : ℕ) → p mark ≡ false → p byte ≡ true → (byte == mark) ≡ false
other p mark byte fails passes =
    elim (byte == mark) as (λ b. (byte == mark) ≡ b → b ≡ false) [
      | true ↦ λ e. let same = eqb-true byte mark e in let at : p byte ≡ p mark = ap p same in cc
      | false ↦ λ _. refl
    ] refl

-- where each byte passes a test that the mark doesn't
pub Lacks-list_all : (mark : ℕ) (p : ℕ → Bool) (field : List ℕ) → p mark ≡ false → list_all p field ≡ true → Lacks mark field
unfolding Lacks
Lacks-list_all mark p field fails h = λ i d below. other p mark (get_or field i d) fails (AllPass-from_list_all p field h i d below)

-- no field has one
unfoldable pub EachLacks : ℕ → List (List ℕ) → Type 0
EachLacks mark [] = ⊤
EachLacks mark (field ∷ fields) = Lacks mark field × EachLacks mark fields

-- the parts of fields that are joined are these fields
pub parts-join : (mark : ℕ) (field : List ℕ) (fields : List (List ℕ)) → EachLacks mark (field ∷ fields)
    → parts_at mark (join_with_byte mark (field ∷ fields)) ≡ field ∷ fields
unfolding Lacks EachLacks
parts-join mark field [] h = slice_split_none (λ byte. byte == mark) field h.0
parts-join mark field (next ∷ fields) h =
    slice_split_at (λ byte. byte == mark) field mark (join_with_byte mark (next ∷ fields)) h.0 (eq-eqb mark mark refl)
    ∙ ap (λ l. field ∷ l) (parts-join mark next fields h.1)

-- and a text is its parts, joined
pub join-parts : (mark : ℕ) (text : List ℕ) (fields : List (List ℕ)) → parts_at mark text ≡ fields → text ≡ join_with_byte mark fields
join-parts mark text fields are = sym (join_with_byte-slice_split mark text) ∙ ap (join_with_byte mark) are

-- a choice that gave a place, and one that gave none
pub some_place : (b : Bool) (place at : ℕ) → cond b (Some place) None ≡ Some at → (b ≡ true) × (place ≡ at)
some_place true place at h = (refl, cc)
some_place false place at h = cc h

pub no_place : (b : Bool) (place : ℕ) → cond b (Some place) None ≡ None → b ≡ false
no_place true place h = cc h
no_place false place h = refl

-- a text is parted at its first mark
pub parts-some : (mark : ℕ) (text : List ℕ) (at : ℕ) → position (λ byte. byte == mark) text ≡ Some at
    → parts_at mark text ≡ take at text ∷ parts_at mark (drop (at + 1) text)
parts-some mark text at h =
    let found = some_place (nat_lt (position_or_len (λ byte. byte == mark) text) (length text)) _ at h in
    let first = slice_split_first (λ byte. byte == mark) text 0 (ltb-true _ _ found.0) in
    rw found.1 at first

-- a text without one is its only part
pub parts-none : (mark : ℕ) (text : List ℕ) → position (λ byte. byte == mark) text ≡ None → parts_at mark text ≡ text ∷ []
parts-none mark text h =
    let missing = no_place (nat_lt (position_or_len (λ byte. byte == mark) text) (length text)) _ h in
    let beyond : length text ≤ position_or_len (λ byte. byte == mark) text = grind (arith, lt-ltb) in
    slice_split_none (λ byte. byte == mark) text (λ i d below. fails_before_first (λ byte. byte == mark) text i d (omega arith))

-- whether a text has a mark
nowhere : (o : Option ℕ) → is_some o ≡ false → o ≡ None
nowhere (Some at) h = cc h
nowhere None h = refl

somewhere : (o : Option ℕ) → is_some o ≡ true → (at : ℕ) × (o ≡ Some at)
somewhere (Some at) h = (at, refl)
somewhere None h = cc h

pub parts-one : (mark : ℕ) (text : List ℕ) → is_some (position (λ byte. byte == mark) text) ≡ false → parts_at mark text ≡ text ∷ []
parts-one mark text h = parts-none mark text (nowhere _ h)

pub parts-more : (mark : ℕ) (text : List ℕ) → is_some (position (λ byte. byte == mark) text) ≡ true → 2 ≤ length (parts_at mark text)
parts-more mark text h =
    let found = somewhere _ h in
    let first = ap length (parts-some mark text found.0 found.1) in
    let rest = length-slice_split (λ byte. byte == mark) (drop (found.0 + 1) text) in
    omega (arith, first, rest)

-- parts taken off one by one
pub two_taken : (p q : List (List ℕ)) (a b : List ℕ) → p ≡ a ∷ q → q ≡ b ∷ [] → p ≡ a ∷ b ∷ []
two_taken p q a b h i = cc

pub more_than_two : (p q : List (List ℕ)) (a : List ℕ) → p ≡ a ∷ q → 2 ≤ length q → length p ≢ 2
more_than_two p q a h more two = omega (arith, ap length h)

pub three_taken : (p q r : List (List ℕ)) (a b c : List ℕ) → p ≡ a ∷ q → q ≡ b ∷ r → r ≡ c ∷ [] → p ≡ a ∷ b ∷ c ∷ []
three_taken p q r a b c h i j = cc

pub more_than_three : (p q r : List (List ℕ)) (a b : List ℕ) → p ≡ a ∷ q → q ≡ b ∷ r → 2 ≤ length r → length p ≢ 3
more_than_three p q r a b h i more three = omega (arith, ap length h, ap length i)

pub four_taken : (p q r s : List (List ℕ)) (a b c d : List ℕ) → p ≡ a ∷ q → q ≡ b ∷ r → r ≡ c ∷ s → s ≡ d ∷ [] → p ≡ a ∷ b ∷ c ∷ d ∷ []
four_taken p q r s a b c d h i j k = cc

pub more_than_four : (p q r s : List (List ℕ)) (a b c : List ℕ) → p ≡ a ∷ q → q ≡ b ∷ r → r ≡ c ∷ s → 2 ≤ length s → length p ≢ 4
more_than_four p q r s a b c h i j more four = omega (arith, ap length h, ap length i, ap length j)

pub six_taken : (p q r s t u : List (List ℕ)) (a b c d e f : List ℕ) → p ≡ a ∷ q → q ≡ b ∷ r → r ≡ c ∷ s → s ≡ d ∷ t → t ≡ e ∷ u → u ≡ f ∷ []
    → p ≡ a ∷ b ∷ c ∷ d ∷ e ∷ f ∷ []
six_taken p q r s t u a b c d e f h i j k l m = cc

pub more_than_six : (p q r s t u : List (List ℕ)) (a b c d e : List ℕ) → p ≡ a ∷ q → q ≡ b ∷ r → r ≡ c ∷ s → s ≡ d ∷ t → t ≡ e ∷ u → 2 ≤ length u
    → length p ≢ 6
more_than_six p q r s t u a b c d e h i j k l more six = omega (arith, ap length h, ap length i, ap length j, ap length k, ap length l)
