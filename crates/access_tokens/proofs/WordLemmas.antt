-- The words that write keys.
use Rattle.std.proofs.Common.{◌≡◌, ℕ, false, List, ◌∷◌, ◌++◌, get_or, Option, Some, None, refl, sym, subst, ◌∙◌, arith}
use Rattle.std.specs.Prelude.{IfNone, IfSome, IsSome, decimal, ◌↔◌}
use Rattle.std.proofs.lemmas.Fmt.{decimal_injective}
use Rattle.std.proofs.lemmas.List.Elements.{All-append, All-cons}
use Rattle.hex.specs.Hex.{is_hex_digit}
use Rattle.hex.proofs.HexLemmas.{decode_of-ok}
use Rattle.access_tokens.specs.Key.{IsHexOf}
use Rattle.access_tokens.specs.Keys.{IsEntryOf, IsWordOf, bare, one, two}
use Rattle.access_tokens.specs.Marks.{Lacks}
use Rattle.access_tokens.specs.declared.keys.KeyEntry.{KeyEntry}
use Rattle.access_tokens.specs.declared.keys.Keys.{Keys}
use Rattle.access_tokens.proofs.MarkLemmas.{Lacks-decimal, has_mark, is, other, same_halves}

-- a key's number and its digits are what a colon parts
pub entry_halves : (entry : KeyEntry) (text digits hex : List ℕ) → (text ≡ digits ++ 58 ∷ hex) × Lacks 58 digits → IsEntryOf entry text
    → (digits ≡ decimal entry.number) × IsHexOf entry.key hex
entry_halves entry text digits hex parted told =
    let same = same_halves 58 digits hex (decimal entry.number) told.digits parted.1
    (Lacks-decimal 58 entry.number refl (omega (arith, told.number_is))) (sym parted.0 ∙ told.text_is) in
    (same.0, subst (IsHexOf entry.key) (sym same.1) told.key_is)

pub no_colon : (entry : KeyEntry) (text : List ℕ) → Lacks 58 text → ¬ IsEntryOf entry text
no_colon entry text lacks told = has_mark 58 (decimal entry.number) told.digits (subst (Lacks 58) told.text_is lacks)

-- a text writes one number
pub one_number : (first second : KeyEntry) (text : List ℕ) → IsEntryOf first text → IsEntryOf second text → first.number ≡ second.number
one_number first second text told also =
    let halves = entry_halves second text (decimal first.number) told.digits
    (told.text_is, Lacks-decimal 58 first.number refl (omega (arith, told.number_is))) also in
    decimal_injective first.number second.number (omega (arith, told.number_is)) (omega (arith, also.number_is)) halves.0

Lacks-hex : (key text : List ℕ) → IsHexOf key text → Lacks 44 text
Lacks-hex key text hex = λ i d below. other 44 is_hex_digit (get_or text i d) refl ((decode_of-ok text key hex.1).1 i d below)

-- a key with its number has no comma
pub Lacks-entry : (entry : KeyEntry) (text : List ℕ) → IsEntryOf entry text → Lacks 44 text
Lacks-entry entry text told =
    subst (Lacks 44) (sym told.text_is)
    (All-append (λ b. is 44 b ≡ false) (decimal entry.number) (58 ∷ told.digits)
    (Lacks-decimal 44 entry.number refl (omega (arith, told.number_is)))
    (All-cons (λ b. is 44 b ≡ false) 58 told.digits refl (Lacks-hex entry.key told.digits told.key_is)))

-- a word without a comma that writes no key with its number writes one in hex alone, if any
pub only_bare : (word : List ℕ) → Lacks 44 word → ((entry : KeyEntry) → ¬ IsEntryOf entry word)
    → (keys : Keys) → IsWordOf keys word → IsHexOf keys.current.key word
only_bare word lacks none keys told =
    elim told [
      | bare hex number former ↦ hex
      | one entry former ↦ absurd (none keys.current entry)
      | two former first second current also is whole ↦ absurd (has_mark 44 first second (subst (Lacks 44) whole lacks))
    ]

-- a word that a comma parts writes two keys, or one in hex alone
pub pair_or_bare : (word first second : List ℕ) → (word ≡ first ++ 44 ∷ second) × Lacks 44 first
    → ((current former : KeyEntry) → IsEntryOf current first → IsEntryOf former second → former.number ≡ current.number)
    → (keys : Keys) → IsWordOf keys word → IsHexOf keys.current.key word
pair_or_bare word first second parted equal keys told =
    elim told [
      | bare hex number former ↦ hex
      | one entry former ↦ absurd (has_mark 44 first second (subst (Lacks 44) parted.0 (Lacks-entry keys.current word entry)))
      | two former front behind current also is whole ↦
          let same = same_halves 44 front behind first second (Lacks-entry keys.current front current) parted.1 (sym whole ∙ parted.0) in
          absurd (keys.differ former is (equal keys.current former (subst (IsEntryOf keys.current) same.0 current)
          (subst (IsEntryOf former) same.1 also)))
    ]

-- where the word is no key in hex alone, whether it writes keys is whether it writes them with numbers
pub words_exact : (word : List ℕ) (keys : Option Keys) → ¬ ((key : List ℕ) × IsHexOf key word) → IfSome keys (λ k. IsWordOf k word)
    → IfNone keys ((k : Keys) → IsWordOf k word → IsHexOf k.current.key word)
    → IsSome keys ↔ ((k : Keys) × IsWordOf k word)
words_exact word (Some keys) not_bare some none = (λ _. (keys, some), λ _. refl)
words_exact word None not_bare some none = (λ e. cc e, λ told. absurd (not_bare (told.0.current.key, none told.0 told.1)))
