-- What words in hex say.
use Rattle.std.proofs.Common.{◌≡◌, ◌≢◌, ◌==◌, ℕ, Bool, true, ◌<◌, List, [], ◌∷◌, length, Ok, refl, sym, ap, ◌∙◌, arith}
use Rattle.std.specs.Prelude.{codes}
use Rattle.std.proofs.lemmas.Bool.{eqb-true}
use Rattle.hex.specs.Hex.{IsBytes, decode_of, encode_lower, lower_digits}
use Rattle.hex.proofs.HexLemmas.{decode_of-encode_lower, decode_of-ok, length-encode_with}
use Rattle.line_text.specs.Words.{hex_text}

-- what an encoded word says
pub hex_back : (word contents : List ℕ) → 0 < length word → decode_of word ≡ Ok contents → encode_lower contents ≡ word
    → IsBytes contents × (word ≡ hex_text contents)
hex_back word [] some back same = absurd (omega (arith, ap length same, length-encode_with lower_digits []))
hex_back word (byte ∷ bytes) some back same =
    let read = decode_of-ok word (byte ∷ bytes) back in
    (read.3, sym same)

pub record IsHex (word contents : List ℕ) : Type 0 where
  pub some : 0 < length word
  pub reads : decode_of word ≡ Ok contents
  pub writes : encode_lower contents ≡ word

-- a word but for the dash is read as just what it says
pub hex_said : (word contents : List ℕ) → word ≢ codes "-" → IsBytes contents → word ≡ hex_text contents → IsHex word contents
hex_said word [] dash form says = absurd (dash says)
hex_said word (byte ∷ bytes) dash form says =
    let len = ap length says ∙ length-encode_with lower_digits (byte ∷ bytes) in
    record {
      some = omega (arith, len);
      reads = ap decode_of says ∙ decode_of-encode_lower (byte ∷ bytes) form;
      writes = sym says;
    }

pub empty_not : (b : Bool) (word : List ℕ) → b ≡ (length word == 0) → b ≡ true → 0 < length word → ⊥
empty_not b word h k some = let none = eqb-true (length word) 0 (sym h ∙ k) in omega (arith, none)

-- bytes with the same text are as many
pub same_many : (bytes other : List ℕ) → hex_text bytes ≡ hex_text other → length bytes ≡ length other
same_many [] [] e = refl
same_many [] (b ∷ other) e = absurd (omega (arith, ap length e, length-encode_with lower_digits (b ∷ other)))
same_many (a ∷ bytes) [] e = absurd (omega (arith, ap length e, length-encode_with lower_digits (a ∷ bytes)))
same_many (a ∷ bytes) (b ∷ other) e =
    omega (arith, ap length e, length-encode_with lower_digits (a ∷ bytes), length-encode_with lower_digits (b ∷ other))
