-- Numbers and order of the entries of a list.
use Rattle.std.proofs.Common.{◌≡◌, ◌≢◌, inl, inr, ◌+◌, ◌≤◌, ℕ, ◌==◌, Bool, true, false, not, ◌||◌, if◌then◌else◌, List, [], ◌∷◌, ◌++◌, length, Some, refl, sym, ap, subst, ◌∙◌, arith, suc, length-append}
use Rattle.std.proofs.lemmas.Bool.Decides.{eqb_tells}
use Rattle.std.proofs.lemmas.Bool.{eq-eqb}
use Rattle.std.proofs.lemmas.List.Folds.{list_any-append}
use Rattle.std.proofs.lemmas.List.Elements.{filter-append}
use Rattle.wopi_text.proofs.Disjunctions.{or_none}
use Rattle.expiry_queue.specs.Waiting.{Waiting, has, key_of, has_key, entry_of, without, last_since, RisesFrom, Differ, file_of, has_file, IsInOrder, refreshed, begun_at, IsFirstDue, left}

-- where a key stands in a list
pub record Splits (key : ℕ) (waiting : List Waiting) : Type 0 where
  pub before : List Waiting
  pub one : Waiting
  pub after : List Waiting
  pub is : waiting ≡ before ++ one ∷ after
  pub here : one.key ≡ key
  pub none_before : has_key key before ≡ false
  pub none_after : has_key key after ≡ false

pub splits : (key : ℕ) (waiting : List Waiting) → Differ key_of waiting → has_key key waiting ≡ true → Splits key waiting
splits key [] differ h = absurd (cc)
splits key (one ∷ rest) differ h =
    elim (eqb_tells one.key key) [
      | inl same ↦ record {
        before = [];
        one = one;
        after = rest;
        is = refl;
        here = same.1;
        none_before = refl;
        none_after = ap (λ k. has_key k rest) (sym same.1) ∙ differ.0;
      }
      | inr other ↦
          let s = splits key rest differ.1 (rw other.0 at h) in
          record {
            before = one ∷ s.before;
            one = s.one;
            after = s.after;
            is = ap (λ (l : List Waiting). one ∷ l) s.is;
            here = s.here;
            none_before = rw other.0 s.none_before;
            none_after = s.none_after;
          }
    ]

pub not_other : (a b : ℕ) → a ≡ b → (a == b) ≡ true
not_other a b e = eq-eqb a b e

pub differs : (a b : ℕ) → a ≢ b → (a == b) ≡ false
differs a b h = elim (eqb_tells a b) [
  | inl same ↦ absurd (h same.1)
  | inr other ↦ other.0
]

pub apart : (a b : ℕ) → (a == b) ≡ false → a ≢ b
apart a b e same = absurd (cc (eq-eqb a b same))

-- a number that is there and one that isn't are two
pub not_same : (number_of : Waiting → ℕ) (a b : ℕ) (waiting : List Waiting) → has number_of a waiting ≡ true → has number_of b waiting ≡ false → a ≢ b
not_same number_of a b waiting there free same = absurd (cc (ap (λ k. has number_of k waiting) same))

pub without_none : (key : ℕ) (waiting : List Waiting) → has_key key waiting ≡ false → without key waiting ≡ waiting
without_none key [] e = refl
without_none key (one ∷ rest) e =
    let parts = or_none (one.key == key) (has_key key rest) e in
    ap (λ b. if not b then one ∷ without key rest else without key rest) parts.0 ∙ ap (λ (l : List Waiting). one ∷ l) (without_none key rest parts.1)

without_here : (key : ℕ) (one : Waiting) (rest : List Waiting) → one.key ≡ key → without key (one ∷ rest) ≡ without key rest
without_here key one rest e = ap (λ b. if not b then one ∷ without key rest else without key rest) (eq-eqb one.key key e)

pub without_split : (key : ℕ) (before after : List Waiting) (one : Waiting) → one.key ≡ key → has_key key before ≡ false → has_key key after ≡ false
    → without key (before ++ one ∷ after) ≡ before ++ after
without_split key before after one here none_before none_after =
    filter-append (λ (w : Waiting). not (w.key == key)) before (one ∷ after)
    ∙ ap (λ (l : List Waiting). l ++ without key (one ∷ after)) (without_none key before none_before)
    ∙ ap (λ (l : List Waiting). before ++ l) (without_here key one after here ∙ without_none key after none_after)

pub without_is : (key : ℕ) (waiting : List Waiting) (s : Splits key waiting) → without key waiting ≡ s.before ++ s.after
without_is key waiting s = ap (without key) s.is ∙ without_split key s.before s.after s.one s.here s.none_before s.none_after

entry_at : (key : ℕ) (before after : List Waiting) (one : Waiting) → one.key ≡ key → has_key key before ≡ false → entry_of key (before ++ one ∷ after) ≡ Some one
entry_at key [] after one here none = ap (λ b. if b then Some one else entry_of key after) (eq-eqb one.key key here)
entry_at key (first ∷ before) after one here none =
    let parts = or_none (first.key == key) (has_key key before) none in
    ap (λ b. if b then Some first else entry_of key (before ++ one ∷ after)) parts.0 ∙ entry_at key before after one here parts.1

pub entry_is : (key : ℕ) (waiting : List Waiting) (s : Splits key waiting) → entry_of key waiting ≡ Some s.one
entry_is key waiting s = ap (entry_of key) s.is ∙ entry_at key s.before s.after s.one s.here s.none_before

pub has-append : (number_of : Waiting → ℕ) (number : ℕ) (xs ys : List Waiting) → has number_of number (xs ++ ys) ≡ (has number_of number xs || has number_of number ys)
has-append number_of number xs ys = list_any-append (λ (w : Waiting). number_of w == number) xs ys

pub differ_push : (number_of : Waiting → ℕ) (waiting : List Waiting) (one : Waiting) → Differ number_of waiting → has number_of (number_of one) waiting ≡ false
    → Differ number_of (waiting ++ one ∷ [])
differ_push number_of [] one differ free = (refl, tt)
differ_push number_of (first ∷ rest) one differ free =
    let parts = or_none (number_of first == number_of one) (has number_of (number_of one) rest) free in
    let other : (number_of one == number_of first) ≡ false = differs (number_of one) (number_of first) (λ e. apart (number_of first) (number_of one) parts.0 (sym e)) in (
      has-append number_of (number_of first) rest (one ∷ []) ∙ ap (λ b. b || has number_of (number_of first) (one ∷ [])) differ.0 ∙ ap (λ b. b || false) other,
      differ_push number_of rest one differ.1 parts.1,
    )

has_without : (number_of : Waiting → ℕ) (number key : ℕ) (waiting : List Waiting) → has number_of number waiting ≡ false → has number_of number (without key waiting) ≡ false
has_without number_of number key [] e = refl
has_without number_of number key (one ∷ rest) e =
    let parts = or_none (number_of one == number) (has number_of number rest) e in
    let below = has_without number_of number key rest parts.1 in
    elim (eqb_tells one.key key) [
      | inl same ↦ rw same.0 below
      | inr other ↦ rw other.0 (ap (λ b. b || has number_of number (without key rest)) parts.0 ∙ below)
    ]

pub differ_without : (number_of : Waiting → ℕ) (key : ℕ) (waiting : List Waiting) → Differ number_of waiting → Differ number_of (without key waiting)
differ_without number_of key [] differ = tt
differ_without number_of key (one ∷ rest) differ =
    elim (eqb_tells one.key key) [
      | inl same ↦ rw same.0 (differ_without number_of key rest differ.1)
      | inr other ↦ rw other.0 (has_without number_of (number_of one) key rest differ.0, differ_without number_of key rest differ.1)
    ]

pub rises_push : (low : ℕ) (waiting : List Waiting) (one : Waiting) → RisesFrom low waiting → last_since low waiting ≤ one.since → RisesFrom low (waiting ++ one ∷ [])
rises_push low [] one rises le = (le, tt)
rises_push low (first ∷ rest) one rises le = (rises.0, rises_push first.since rest one rises.1 le)

rises_earlier : (low high : ℕ) (waiting : List Waiting) → low ≤ high → RisesFrom high waiting → RisesFrom low waiting
rises_earlier low high [] le rises = tt
rises_earlier low high (one ∷ rest) le rises = (omega (arith, rises.0), rises.1)

pub rises_without : (low key : ℕ) (waiting : List Waiting) → RisesFrom low waiting → RisesFrom low (without key waiting)
rises_without low key [] rises = tt
rises_without low key (one ∷ rest) rises =
    let below = rises_without one.since key rest rises.1 in
    elim (eqb_tells one.key key) [
      | inl same ↦ rw same.0 (rises_earlier low one.since (without key rest) rises.0 below)
      | inr other ↦ rw other.0 (rises.0, below)
    ]

last_later : (low high : ℕ) (waiting : List Waiting) → low ≤ high → last_since low waiting ≤ last_since high waiting
last_later low high [] le = le
last_later low high (one ∷ rest) le = omega arith

pub last_without : (low key : ℕ) (waiting : List Waiting) → RisesFrom low waiting → last_since low (without key waiting) ≤ last_since low waiting
last_without low key [] rises = omega arith
last_without low key (one ∷ rest) rises =
    let below : last_since one.since (without key rest) ≤ last_since one.since rest = last_without one.since key rest rises.1 in
    elim (eqb_tells one.key key) [
      | inl same ↦
          let earlier : last_since low (without key rest) ≤ last_since one.since (without key rest) = last_later low one.since (without key rest) rises.0 in
          rw same.0 (omega arith)
      | inr other ↦ rw other.0 below
    ]

-- no number stands in both parts
pub record Parts (number_of : Waiting → ℕ) (xs ys : List Waiting) : Type 0 where
  pub front : Differ number_of xs
  pub back : Differ number_of ys
  pub not_front : (number : ℕ) → has number_of number ys ≡ true → has number_of number xs ≡ false
  pub not_back : (number : ℕ) → has number_of number xs ≡ true → has number_of number ys ≡ false

none_of : (b : Bool) → (b ≡ true → false ≡ true) → b ≡ false
none_of true h = sym (h refl)
none_of false h = refl

pub differ_parts : (number_of : Waiting → ℕ) (xs ys : List Waiting) → Differ number_of (xs ++ ys) → Parts number_of xs ys
differ_parts number_of [] ys differ = record { front = tt; back = differ; not_front = λ number there. refl; not_back = λ number there. absurd (cc) }
differ_parts number_of (x ∷ xs) ys differ =
    let rest = differ_parts number_of xs ys differ.1 in
    let none = or_none (has number_of (number_of x) xs) (has number_of (number_of x) ys) (sym (has-append number_of (number_of x) xs ys) ∙ differ.0) in
    let not_front : (number : ℕ) → has number_of number ys ≡ true → has number_of number (x ∷ xs) ≡ false =
    λ number there. ap (λ b. b || has number_of number xs) (differs (number_of x) number (λ e. not_same number_of number (number_of x) ys there none.1 (sym e)))
    ∙ rest.not_front number there in
    record {
      front = (none.0, rest.front);
      back = rest.back;
      not_front = not_front;
      not_back = λ number there. none_of (has number_of number ys) (λ e. sym (not_front number e) ∙ there);
    }

pub free_without : (key : ℕ) (waiting : List Waiting) (s : Splits key waiting) → has_key key (without key waiting) ≡ false
free_without key waiting s =
    ap (has_key key) (without_is key waiting s) ∙ has-append key_of key s.before s.after ∙ ap (λ b. b || has_key key s.after) s.none_before ∙ s.none_after

pub file_without : (key : ℕ) (waiting : List Waiting) (s : Splits key waiting) → Differ file_of waiting → has_file s.one.file (without key waiting) ≡ false
file_without key waiting s differ =
    let parts = differ_parts file_of s.before (s.one ∷ s.after) (subst (Differ file_of) s.is differ) in
    let here : has_file s.one.file (s.one ∷ s.after) ≡ true = ap (λ b. b || has_file s.one.file s.after) (eq-eqb s.one.file s.one.file refl) in
    ap (has_file s.one.file) (without_is key waiting s) ∙ has-append file_of s.one.file s.before s.after
    ∙ ap (λ b. b || has_file s.one.file s.after) (parts.not_front s.one.file here) ∙ parts.back.0

pub length_without : (key : ℕ) (waiting : List Waiting) (s : Splits key waiting) → length waiting ≡ length (without key waiting) + 1
length_without key waiting s =
    let long : length waiting ≡ length s.before + suc (length s.after) = ap length s.is ∙ length-append s.before (s.one ∷ s.after) in
    let short : length (without key waiting) ≡ length s.before + length s.after = ap length (without_is key waiting s) ∙ length-append s.before s.after in
    omega arith

pub order_push : (waiting : List Waiting) (one : Waiting) → IsInOrder waiting → has_key one.key waiting ≡ false → has_file one.file waiting ≡ false → last_since 0 waiting ≤ one.since
    → IsInOrder (waiting ++ one ∷ [])
order_push waiting one order key file since = record {
  keys = differ_push key_of waiting one order.keys key;
  files = differ_push file_of waiting one order.files file;
  rises = rises_push 0 waiting one order.rises since;
}

pub order_without : (key : ℕ) (waiting : List Waiting) → IsInOrder waiting → IsInOrder (without key waiting)
order_without key waiting order = record {
  keys = differ_without key_of key waiting order.keys;
  files = differ_without file_of key waiting order.files;
  rises = rises_without 0 key waiting order.rises;
}

-- a list with one entry begun anew
pub refreshed_is : (key since : ℕ) (waiting : List Waiting) (s : Splits key waiting) → refreshed key since waiting ≡ without key waiting ++ record { key = key; file = s.one.file; since = since } ∷ []
refreshed_is key since waiting s =
    ap (λ o. without key waiting ++ begun_at since o) (entry_is key waiting s)
    ∙ ap (λ k. without key waiting ++ record { key = k; file = s.one.file; since = since } ∷ []) s.here

-- the first one is taken out where it is due
pub without_first : (waiting : List Waiting) (now key : ℕ) → Differ key_of waiting → IsFirstDue waiting now key → without key waiting ≡ left waiting now
without_first waiting now key differ first =
    let keys : Differ key_of (first.one ∷ first.rest) = subst (Differ key_of) first.is differ in
    ap (without key) first.is ∙ without_here key first.one first.rest first.here ∙ without_none key first.rest (ap (λ k. has_key k first.rest) (sym first.here) ∙ keys.0)
    ∙ sym (ap (λ (l : List Waiting). left l now) first.is ∙ ap (λ b. if b then first.rest else first.one ∷ first.rest) first.due)
