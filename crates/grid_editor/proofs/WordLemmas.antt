-- The words of a line.
use Rattle.std.proofs.Common.{◌≡◌, ◌≢◌, ℕ, ◌+◌, ◌-◌, ◌<◌, ◌≤◌, ◌^◌, ◌==◌, ◌⊎◌, Bool, true, false, cond, List, [], ◌∷◌, ◌++◌, Option, None, Some, length, take, drop, get_or, refl, sym, ap, ◌∙◌, subst, arith, inl, inr}
use Rattle.std.specs.Prelude.{MatchOption, IfSome, IfNone, codes, decimal, nat_lt, position, suc, ◌&&◌}
use Rattle.std.specs.List.{AllByRecursion, list_all, position_or_len}
use Rattle.std.specs.Str.{bytes_eq}
use Rattle.std.specs.Char.{is_ascii_digit}
use Rattle.std.proofs.lemmas.Bool.{false≢true, ne_eqb, eqb-true, lt-ltb}
use Rattle.std.proofs.lemmas.List.{append_cancel_left, drop_more, length-append, take-append-drop, take_at, take_rest}
use Rattle.std.proofs.lemmas.List.Quantifiers.{position-Some}
use Rattle.std.proofs.lemmas.Slice.Eq.{bytes_eq-Decides}
use Rattle.wopi_text.specs.Decimals.{decimal_of}
use Rattle.wopi_text.proofs.Decimals.{decimal_of-some, decimal_of-decimal, digits-decimal}
use Rattle.grid_editor.specs.Kinds.{SaysSet}

-- ---- a word at the front

pub behind_word : {X : Type 0} (now : X → List ℕ) (line word : List ℕ) (o : Option X)
    → MatchOption o (bytes_eq (take (length word) line) word ≡ false)
    (λ x. (bytes_eq (take (length word) line) word ≡ true) × (now x ≡ drop (length word) line) × (length (now x) + length word ≡ length line))
    → IfSome o (λ x. line ≡ word ++ now x)
behind_word now line word None h = tt
behind_word now line word (Some x) h =
    sym (take-append-drop (length word) line) ∙ ap (λ l. l ++ drop (length word) line) ((bytes_eq-Decides (take (length word) line) word).0 h.0) ∙ ap (λ l. word ++ l) (sym h.1)

pub not_behind_word : {X : Type 0} (now : X → List ℕ) (line word : List ℕ) (o : Option X)
    → MatchOption o (bytes_eq (take (length word) line) word ≡ false)
    (λ x. (bytes_eq (take (length word) line) word ≡ true) × (now x ≡ drop (length word) line) × (length (now x) + length word ≡ length line))
    → IfNone o ((rest : List ℕ) → line ≢ word ++ rest)
not_behind_word now line word None h = λ rest is.
    false≢true (sym h ∙ (bytes_eq-Decides (take (length word) line) word).1 (ap (take (length word)) is ∙ take_at word rest (length word) refl))
not_behind_word now line word (Some x) h = tt

-- ---- a number

pub number_found : (line word rest : List ℕ) (o : Option ℕ) → o ≡ decimal_of rest → line ≡ word ++ rest
    → IfSome o (λ number. (number < 2 ^ 64) × (line ≡ word ++ decimal number))
number_found line word rest None e is = tt
number_found line word rest (Some n) e is = let found = decimal_of-some rest n (sym e) in (found.0, is ∙ ap (λ l. word ++ l) found.1)

no_decimal : (rest : List ℕ) (n : ℕ) → None ≡ decimal_of rest → n < 2 ^ 64 → rest ≢ decimal n
no_decimal rest n none fits is = absurd (cc (none, ap decimal_of is, decimal_of-decimal n fits))

pub number_missing : (line word rest : List ℕ) (o : Option ℕ) → o ≡ decimal_of rest → line ≡ word ++ rest
    → IfNone o ((number : ℕ) → number < 2 ^ 64 → line ≢ word ++ decimal number)
number_missing line word rest None e is = λ n fits same. no_decimal rest n e fits (append_cancel_left word rest (decimal n) (sym is ∙ same))
number_missing line word rest (Some n) e is = tt

-- ---- a number before a space

-- no byte is a space
abbrev Lacks : List ℕ → Type 0
Lacks bytes = AllByRecursion (λ byte. byte ≢ 32) bytes

no_space : (p : ℕ → Bool) (b : ℕ) → p 32 ≡ false → p b ≡ true → b ≢ 32
no_space p b fails passes is = absurd (cc (fails, passes, ap p is))

both : (a b : Bool) → (a && b) ≡ true → (a ≡ true) × (b ≡ true)
both true b h = (refl, h)
both false b h = absurd (cc h)

lacks : (p : ℕ → Bool) (bytes : List ℕ) → p 32 ≡ false → list_all p bytes ≡ true → Lacks bytes
lacks p [] fails h = tt
lacks p (b ∷ bytes) fails h = let parts = both (p b) (list_all p bytes) h in (no_space p b fails parts.0, lacks p bytes fails parts.1)

decimal-lacks : (n : ℕ) → n < 2 ^ 64 → Lacks (decimal n)
decimal-lacks n fits = lacks is_ascii_digit (decimal n) refl (digits-decimal n fits)

abbrev is_space : ℕ → Bool
is_space byte = byte == 32

space_after : (front rest : List ℕ) → Lacks front → position_or_len is_space (front ++ (32 ∷ rest)) ≡ length front
space_after [] rest none = refl
space_after (b ∷ front) rest none =
    let other = ne_eqb b 32 none.0 in
    let later = space_after front rest none.1 in
    let one : 1 + length front ≡ suc (length front) = omega arith in
    rw other (ap (λ n. 1 + n) later ∙ one)

first_space : (front rest : List ℕ) → Lacks front → position is_space (front ++ (32 ∷ rest)) ≡ Some (length front)
first_space front rest none =
    let at = space_after front rest none in
    let n = length-append front (32 ∷ rest) in
    let within : nat_lt (length front) (length (front ++ (32 ∷ rest))) ≡ true = lt-ltb _ _ (omega (arith, n)) in
    rw (at, within) refl

-- texts that are parted at their first spaces are parted once
same_rest : (a b x y : List ℕ) → Lacks a → Lacks b → a ++ (32 ∷ x) ≡ b ++ (32 ∷ y) → x ≡ y
same_rest [] [] x y p q h = cc h
same_rest [] (c ∷ b) x y p q h = let is : c ≡ 32 = cc h in absurd (q.0 is)
same_rest (c ∷ a) [] x y p q h = let is : c ≡ 32 = cc h in absurd (p.0 is)
same_rest (c ∷ a) (d ∷ b) x y p q h = same_rest a b x y p.1 q.1 (cc h)

pub number_then : (text : List ℕ) (at number : ℕ) → position is_space text ≡ Some at → Some number ≡ decimal_of (take at text)
    → (number < 2 ^ 64) × (text ≡ decimal number ++ (32 ∷ take (length text - (at + 1)) (drop (at + 1) text)))
number_then text at number place read =
    let found = position-Some is_space text at 0 place in
    let digits = decimal_of-some (take at text) number (sym read) in
    let space : get_or text at 0 ≡ 32 = eqb-true (get_or text at 0) 32 found.1 in
    let rest = drop_more text at 0 found.0 ∙ ap (λ b. b ∷ drop (at + 1) text) space ∙ ap (λ l. 32 ∷ l) (sym (take_rest text (at + 1))) in
    (digits.0, sym (take-append-drop at text) ∙ ap (λ l. l ++ drop at text) digits.1 ∙ ap (λ l. decimal number ++ l) rest)

pub number_not_then : (text : List ℕ) (o : Option ℕ) → position is_space text ≡ o → IfSome o (λ at. None ≡ decimal_of (take at text))
    → (number : ℕ) (rest : List ℕ) → number < 2 ^ 64 → text ≢ decimal number ++ (32 ∷ rest)
number_not_then text None place none number rest fits is =
    absurd (cc (ap (position is_space) is, place, first_space (decimal number) rest (decimal-lacks number fits)))
number_not_then text (Some at) place none number rest fits is =
    let found = ap (position is_space) (sym is) ∙ place in
    let same : length (decimal number) ≡ at = cc (found, first_space (decimal number) rest (decimal-lacks number fits)) in
    let front : take at text ≡ decimal number = ap (take at) is ∙ take_at (decimal number) (32 ∷ rest) at same in
    no_decimal (take at text) number none fits front

-- where the second number of a `set` line is missing it is none
pub set_refused : (line rest later : List ℕ) (row : ℕ) → line ≡ codes "set " ++ rest → (row < 2 ^ 64) × (rest ≡ decimal row ++ (32 ∷ later))
    → ((number : ℕ) (text : List ℕ) → number < 2 ^ 64 → later ≢ decimal number ++ (32 ∷ text))
    → (r c : ℕ) (text : List ℕ) → SaysSet line r c text → ⊥
set_refused line rest later row is first none r c text says =
    let same = append_cancel_left (codes "set ") rest (decimal r ++ (32 ∷ (decimal c ++ (32 ∷ text)))) (sym is ∙ says.2) in
    let behind = same_rest (decimal row) (decimal r) later (decimal c ++ (32 ∷ text)) (decimal-lacks row first.0) (decimal-lacks r says.0) (sym first.1 ∙ same) in
    none c text says.1 behind
