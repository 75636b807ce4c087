-- The first field of a name, and how many have it.
use Rattle.std.proofs.Common.{◌≡◌, ℕ, suc, ◌+◌, ◌<◌, not, length, drop, take, get_or, nat_lt, sym, ◌-◌, ◌≤◌, length-drop, arith, Bool, true, false, List, [], ◌∷◌, Option, Some, None, cond, refl, ap, ◌∙◌}
use Rattle.std.specs.Option.{option_map}
use Rattle.std.specs.List.{find, count_by, position_or_len}
use Rattle.std.proofs.lemmas.List.Sums.{sum_by-cons}
use Rattle.wopi_http.specs.declared.message.Field.{Field}
use Rattle.wopi_http.specs.Fields.{is_named, count_named, first_named}
use Rattle.std.specs.Prelude.{position, slice_get}
use Rattle.std.proofs.lemmas.List.{take_all}
use Rattle.std.proofs.lemmas.Bool.{ltb-true, ltb-false}
use Rattle.std.proofs.lemmas.List.Folds.{find_at}
use Rattle.std.proofs.lemmas.Option.{slice_get-get_or}
use Rattle.wopi_headers.specs.Readings.{value_named}
use Rattle.wopi_headers.specs.Values.{IsFirst}

by_first : {X : Type 0} (count : List X → ℕ) (b : Bool) (at : ℕ) (x : X) (xs : List X)
    → (at < length xs → count xs ≡ 1 + count (drop (suc at) xs))
    → cond (not b) (1 + at) 0 < length (x ∷ xs) → cond b 1 0 + count xs ≡ 1 + count (drop (suc (cond (not b) (1 + at) 0)) (x ∷ xs))
by_first count true at x xs e lt = refl
by_first count false at x xs e lt =
    let one : suc at ≡ 1 + at = omega arith in
    let behind : count xs ≡ 1 + count (drop (1 + at) xs) = e (omega (arith, lt)) ∙ ap (λ k. 1 + count (drop k xs)) one in
    omega (arith, behind)

-- the first element that passes, and those behind it
counts_first : {X : Type 0} (p : X → Bool) (xs : List X) → position_or_len p xs < length xs → count_by p xs ≡ 1 + count_by p (drop (suc (position_or_len p xs)) xs)
counts_first p [] lt = absurd (omega (arith, lt))
counts_first p (x ∷ xs) lt =
    sum_by-cons (λ y. cond (p y) 1 0) x xs ∙ by_first (count_by p) (p x) (position_or_len p xs) x xs (counts_first p xs) lt

by_none : {X : Type 0} (count : ℕ) (b : Bool) (at : ℕ) (xs : List X) (x : X)
    → (length xs ≤ at → count ≡ 0) → length (x ∷ xs) ≤ cond (not b) (1 + at) 0 → cond b 1 0 + count ≡ 0
by_none count true at xs x e le = absurd (omega (arith, le))
by_none count false at xs x e le = let none : count ≡ 0 = e (omega (arith, le)) in omega (arith, none)

counts_none : {X : Type 0} (p : X → Bool) (xs : List X) → length xs ≤ position_or_len p xs → count_by p xs ≡ 0
counts_none p [] le = refl
counts_none p (x ∷ xs) le = sum_by-cons (λ y. cond (p y) 1 0) x xs ∙ by_none (count_by p xs) (p x) (position_or_len p xs) xs x (counts_none p xs) le

placed : (b : Bool) (at k : ℕ) → cond b (Some at) None ≡ Some k → (at ≡ k) × (b ≡ true)
placed true at k e = (cc e, refl)
placed false at k e = absurd (cc e)

not_placed : (b : Bool) (at : ℕ) → cond b (Some at) None ≡ None → b ≡ false
not_placed true at e = absurd (cc e)
not_placed false at e = refl

pub no_place : (name : List ℕ) (fields : List Field) → position (is_named name) fields ≡ None → count_named name fields ≡ 0
no_place name fields e =
    let at = position_or_len (is_named name) fields in
    counts_none (is_named name) fields (ltb-false at (length fields) (not_placed _ at e))

-- what stands at the first place, and behind it
pub first_place : (name : List ℕ) (fields : List Field) (k : ℕ) (f : Field) (value : List ℕ) → position (is_named name) fields ≡ Some k
    → value ≡ (get_or fields k f).value → IsFirst name fields value (take (length fields - (k + 1)) (drop (k + 1) fields))
first_place name fields k f value e is =
    let at = position_or_len (is_named name) fields in
    let found = placed (nat_lt at (length fields)) at k e in
    let inside = ltb-true at (length fields) found.1 in
    let here : suc at ≡ k + 1 = omega (arith, found.0) in
    let within : k < length fields = omega (arith, found.0, inside) in
    let rest : take (length fields - (k + 1)) (drop (k + 1) fields) ≡ drop (k + 1) fields =
    take_all (length fields - (k + 1)) (drop (k + 1) fields) (omega (arith, length-drop (k + 1) fields)) in
    record {
      value_is = ap (option_map (λ g. g.value))
          (find_at (is_named name) fields ∙ ap (slice_get fields) found.0 ∙ slice_get-get_or fields k f within) ∙ ap Some (sym is);
      count_is = counts_first (is_named name) fields inside
          ∙ ap (λ n. 1 + count_by (is_named name) (drop n fields)) here ∙ ap (λ xs. 1 + count_by (is_named name) xs) (sym rest);
    }

-- a name without a first field has no field
not_found : {X : Type 0} (b : Bool) (x : X) (rest : Option X) → cond b (Some x) rest ≡ None → (b ≡ false) × (rest ≡ None)
not_found true x rest e = absurd (cc e)
not_found false x rest e = (refl, e)

no_find : {X : Type 0} (p : X → Bool) (xs : List X) → find p xs ≡ None → count_by p xs ≡ 0
no_find p [] e = refl
no_find p (x ∷ xs) e =
    let parts = not_found (p x) x (find p xs) e in
    sum_by-cons (λ y. cond (p y) 1 0) x xs ∙ ap (λ b. cond b 1 0 + count_by p xs) parts.0 ∙ ap (λ n. 0 + n) (no_find p xs parts.1)

unmapped : (o : Option Field) → option_map (λ f. f.value) o ≡ None → o ≡ None
unmapped None e = refl
unmapped (Some f) e = absurd (cc e)

pub none_named : (name : List ℕ) (fields : List Field) → value_named name fields ≡ None → count_named name fields ≡ 0
none_named name fields e = no_find (is_named name) fields (unmapped (first_named name fields) e)
