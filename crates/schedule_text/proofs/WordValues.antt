-- What the words of a line say.
use Rattle.std.proofs.Common.{All, ◌≡◌, ◌≢◌, ◌↔◌, ◌==◌, ℕ, Bool, true, ◌<◌, ◌≤◌, ◌+◌, ◌-◌, ◌^◌, List, [], ◌∷◌, length, get_or, drop, Option, None, Some, sym, ap, ◌∙◌, subst, arith}
use Rattle.std.specs.Prelude.{IfSome, codes, decimal}
use Rattle.std.proofs.lemmas.Bool.{eqb-true}
use Rattle.hex.specs.Hex.{IsBytes, lower_digits}
use Rattle.hex.proofs.HexLemmas.{length-encode_with}
use Rattle.wopi_text.specs.LockId.{IsLockId}
use Rattle.schedule_text.specs.Grammar.{IsContents, IsCounted, IsLockWord}
use Rattle.line_text.specs.Words.{hex_text}

-- ---- contents

-- a word of so many digits writes contents that a line can have, and none other does
pub few_digits : (word contents : List ℕ) → length word ≤ 16384 → IsBytes contents → word ≡ hex_text contents → IsContents contents
few_digits word [] few form says = record { bytes = form; short = omega arith }
few_digits word (byte ∷ bytes) few form says =
    let len = ap length says ∙ length-encode_with lower_digits (byte ∷ bytes) in
    record { bytes = form; short = omega (arith, len, few) }

pub few_found : (word : List ℕ) (read : Option (List ℕ)) → length word ≤ 16384 → IfSome read (λ contents. IsBytes contents × (word ≡ hex_text contents))
    → IfSome read (λ contents. IsContents contents × (word ≡ hex_text contents))
few_found word None few says = tt
few_found word (Some contents) few says = (few_digits word contents few says.0 says.1, says.1)

pub many_digits : (word contents : List ℕ) → 16384 < length word → IsContents contents → word ≡ hex_text contents → ⊥
many_digits word [] many form says = let len = ap length says in omega (arith, len, many)
many_digits word (byte ∷ bytes) many form says =
    let len = ap length says ∙ length-encode_with lower_digits (byte ∷ bytes) in
    let short = form.short in
    omega (arith, len, many, short)

-- ---- numbers

-- a word that is a number from 1 is just that number
pub counted : (word : List ℕ) (number : ℕ) → 0 < number → ((n : ℕ) → (Some number ≡ Some n) ↔ ((n < 2 ^ 64) × (word ≡ decimal n)))
    → (n : ℕ) → (Some number ≡ Some n) ↔ (IsCounted n × (word ≡ decimal n))
counted word number some each n = (
  λ e.
      let same : number ≡ n = cc e in
      let said = (each n).0 e in
      (record { counted = omega (arith, same, some); fits = said.0 }, said.1),
  λ says. (each n).1 (says.0.fits, says.1),
)

pub not_counted : (word : List ℕ) → ((n : ℕ) → (None ≡ Some n) ↔ ((n < 2 ^ 64) × (word ≡ decimal n))) → (n : ℕ) → (None ≡ Some n) ↔ (IsCounted n × (word ≡ decimal n))
not_counted word each n = (λ e. cc e, λ says. (each n).1 (says.0.fits, says.1))

pub none_counted : (word : List ℕ) (number : ℕ) → number ≡ 0 → ((n : ℕ) → (Some number ≡ Some n) ↔ ((n < 2 ^ 64) × (word ≡ decimal n)))
    → (n : ℕ) → (None ≡ Some n) ↔ (IsCounted n × (word ≡ decimal n))
none_counted word number zero each n = (
  λ e. cc e,
  λ says.
      let both : Some number ≡ Some n = (each n).1 (says.0.fits, says.1) in
      let same : number ≡ n = cc both in
      let some = says.0.counted in
      absurd (omega (arith, same, zero, some)),
)

-- what stands behind the first byte
pub behind : (word rest : List ℕ) (byte : ℕ) → word ≡ byte ∷ rest → (0 < length word) × (get_or word 0 0 ≡ byte) × (drop 1 word ≡ rest)
behind word rest byte h = (omega (arith, ap length h), ap (λ w. get_or w 0 0) h, ap (drop 1) h)

pub put_back : (word rest : List ℕ) (byte : ℕ) → 0 < length word → get_or word 0 0 ≡ byte → drop 1 word ≡ rest → word ≡ byte ∷ rest
put_back [] rest byte some h k = absurd (omega arith)
put_back (first ∷ bytes) rest byte some h k = cc (h, k)

-- ---- locks

-- a lock id that is visible, short and no dash
pub lock_word_is : (id : List ℕ) → (id ≡ codes "-" → ⊥) → length id ≤ 256 → All (λ byte. (33 ≤ byte) × (byte ≤ 126)) id → IsLockId id ↔ IsLockWord id
lock_word_is id no_dash short visible = (
  λ form. record { some = form.not_empty; short = short; visible = visible; no_dash = no_dash },
  λ word. record {
    not_empty = word.some;
    short = omega (arith, short);
    printable = λ i d below. let seen = visible i d below in (omega (arith, seen.0), seen.1);
    first = λ is. let seen = visible 0 0 word.some in absurd (omega (arith, is, seen.0));
    last = λ is. let some = word.some in let seen = visible (length id - 1) 0 (omega (arith, some)) in absurd (omega (arith, is, seen.0));
  },
)

-- a session is named by its number from 1
pub place_found : (word : List ℕ) (number : ℕ) (o : Option ℕ) → o ≡ Some number → ((n : ℕ) → (o ≡ Some n) ↔ (IsCounted n × (word ≡ decimal n)))
    → (s : ℕ) → (Some (number - 1) ≡ Some s) ↔ (IsCounted (s + 1) × (word ≡ decimal (s + 1)))
place_found word number o is each s =
    let own = (each number).0 is in
    let some = own.0.counted in (
      λ e.
          let less : number - 1 ≡ s = cc e in
          let same : number ≡ s + 1 = omega (arith, less, some) in
          subst (λ (n : ℕ). IsCounted n × (word ≡ decimal n)) same own,
      λ form.
          let both : Some number ≡ Some (s + 1) = sym is ∙ (each (s + 1)).1 form in
          let same : number ≡ s + 1 = cc both in
          let less : number - 1 ≡ s = omega (arith, same) in
          ap (λ n. Some n) less,
    )
