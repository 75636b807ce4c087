-- Where a name's stem ends.
use Rattle.std.proofs.Common.{◌≡◌, ◌↔◌, IsTrue, true≢false, ◌+◌, ◌==◌, cond, codes, decimal, lit<, length-append, ℕ, ◌≤◌, ◌<◌, ◌-◌, Bool, true, false, not, List, ◌++◌, length, take, get_or, refl, sym, ap, subst, arith}
use Rattle.std.proofs.lemmas.List.Elements.{All-from_get_or}
use Rattle.std.proofs.lemmas.List.Folds.{list_any_none, list_any_at}
use Rattle.std.proofs.lemmas.List.Sums.{suffix_len_is}
use Rattle.std.proofs.lemmas.Fmt.{length-decimal-le}
use Rattle.std.proofs.lemmas.List.{length-take, length-drop}
use Rattle.std.specs.List.{list_any, suffix_len}
use Rattle.wopi_text.specs.FileName.{name_limit}
use Rattle.put_relative.specs.CopyNames.{IsTidy, is_period, stem_of, ending_of, copy_name, is_closing, without_closing}

-- no period stands from this place on
abbrev pub NoneFrom : List ℕ → ℕ → Type 0
NoneFrom name at = (k : ℕ) → at ≤ k → k < length name → is_period (get_or name k 0) ≡ false

none_anywhere : (name : List ℕ) → NoneFrom name 0 → list_any is_period name ≡ false
none_anywhere name none = list_any_none is_period name (All-from_get_or (λ b. is_period b ≡ false) name 0 (λ k below. none k (omega arith) below))

pub all_stem : (name : List ℕ) → NoneFrom name 0 → stem_of name ≡ name
all_stem name none = rw (none_anywhere name none) refl

pub stem_at : (name : List ℕ) (at : ℕ) → at < length name → is_period (get_or name at 0) ≡ true → NoneFrom name (at + 1) → stem_of name ≡ take at name
stem_at name at below period none =
    let place : at ≡ at + 1 - 1 = omega arith in
    let some = list_any_at is_period name at 0 below period in
    let len : suffix_len (λ b. not (is_period b)) name ≡ length name - (at + 1) = suffix_len_is (λ b. not (is_period b)) name (at + 1) 0 (omega arith) (λ k from under. ap not (none k from under)) (λ _. subst (λ i. not (is_period (get_or name i 0)) ≡ false) place (ap not period)) in
    rw (some, len) (ap (λ n. take n name) (omega arith))

either_short : (b : Bool) (k : ℕ) (name : List ℕ) → length (cond b (take k name) name) ≤ length name
either_short true k name = let len = length-take k name in omega (arith, len)
either_short false k name = omega arith

stem_short : (name : List ℕ) → length (stem_of name) ≤ length name
stem_short name = either_short (list_any is_period name) _ name

copy_length : (name d : List ℕ) → length (stem_of name ++ (codes " (" ++ (d ++ (codes ")" ++ ending_of name)))) ≡ length name + length d + 3
copy_length name d =
    let stem = stem_of name in
    let ending = ending_of name in
    let short = stem_short name in
    let rest : length ending ≡ length name - length stem = length-drop (length stem) name in
    let one = length-append stem (codes " (" ++ (d ++ (codes ")" ++ ending))) in
    let two = length-append (codes " (") (d ++ (codes ")" ++ ending)) in
    let three = length-append d (codes ")" ++ ending) in
    let four = length-append (codes ")") ending in
    omega (arith, short, rest, one, two, three, four)

either_fits : (b : Bool) (xs ys : List ℕ) → length xs ≤ name_limit → length ys ≤ name_limit → length (cond b xs ys) ≤ name_limit
either_fits true xs ys h k = h
either_fits false xs ys h k = k

pub copies_fit : (name : List ℕ) (n : ℕ) → IsTidy name → n < 100 → length (copy_name name n) ≤ name_limit
copies_fit name n tidy small =
    let digits = length-decimal-le 2 n (lit< tt) small (omega (arith, small)) in
    let len = copy_length name (decimal n) in
    let room = tidy.room in
    either_fits (n == 0) name _ (omega (arith, room)) (omega (arith, len, digits, room))

pub kept_at : (text : List ℕ) (at : ℕ) → at ≤ length text → ((k : ℕ) → at ≤ k → k < length text → is_closing (get_or text k 0) ≡ true) → (0 < at → is_closing (get_or text (at - 1) 0) ≡ false) → without_closing text ≡ take at text
kept_at text at inside all before =
    let len : suffix_len is_closing text ≡ length text - at = suffix_len_is is_closing text at 0 inside all before in
    rw len (ap (λ n. take n text) (omega (arith, inside)))

-- a period before which the search has come
pub stem_back : (name : List ℕ) (end : ℕ) → 0 < end → end ≤ length name → NoneFrom name end → is_period (get_or name (end - 1) 0) ≡ true → stem_of name ≡ take (end - 1) name
stem_back name end some inside none period =
    let place : end ≡ end - 1 + 1 = omega arith in
    stem_at name (end - 1) (omega (arith, some, inside)) period (subst (NoneFrom name) place none)

pub stem_none : (name : List ℕ) (end : ℕ) → end ≡ 0 → NoneFrom name end → stem_of name ≡ name
stem_none name end start none = all_stem name (subst (NoneFrom name) start none)

pub no_more : (b x : Bool) (end : ℕ) → (IsTrue b ↔ ((0 < end) × (x ≡ true))) → b ≡ false → 0 < end → x ≡ false
no_more b false end h is some = refl
no_more true true end h is some = absurd (true≢false is)
no_more false true end h is some = absurd (true≢false (sym (h.1 (some, refl))))
