-- Digits of lower-case hex, and the bytes that they write.
use Rattle.std.proofs.Common.{◌≡◌, ℕ, zero, suc, ◌*◌, ◌-◌, ◌/◌, ◌%◌, ◌<◌, true, List, [], ◌∷◌, ◌++◌, length, get_or, refl, ap, ◌∙◌, arith, inl, inr}
use Rattle.std.specs.List.{list_all}
use Rattle.std.specs.Int.{w32, to_be_bytes}
use Rattle.std.proofs.lemmas.Bool.{cases_lt}
use Rattle.std.proofs.lemmas.List.Sums.{AllPass-from_list_all}
use Rattle.std.proofs.Math.ListN.{get_or-append}
use Rattle.std.proofs.Math.Seq.{get_or-append_right}
use Rattle.hex.specs.Hex.{IsBytes, encode_lower, encode_with, lower_digits}
use Rattle.hex.proofs.HexLemmas.{length-encode_with}
use Rattle.sha2.specs.Sha256.{sha256, digest_bytes}
use Rattle.sha2.proofs.Facts256.{length-sha256}
use Rattle.access_tokens.specs.Hmac.{hmac}
use Rattle.access_tokens.specs.TokenText.{IsMac, is_lower_digit, mac_of}

-- each of the sixteen digits is one
lower_place : (place : ℕ) → place < 16 → is_lower_digit (get_or lower_digits place 0) ≡ true
lower_place place h = AllPass-from_list_all is_lower_digit lower_digits refl place 0 h

-- what is written of bytes in lower-case hex has such digits alone
pub lower-encode : (bytes : List ℕ) → IsBytes bytes → list_all is_lower_digit (encode_lower bytes) ≡ true
unfolding encode_with
lower-encode [] h = refl
lower-encode (byte ∷ rest) h =
    let small : byte < 256 = h 0 in
    let high = lower_place (byte / 16) (omega arith) in
    let low = lower_place (byte % 16) (omega arith) in
    let more = lower-encode rest (λ k. h (suc k)) in
    rw (high, low) more

IsBytes-append : (xs ys : List ℕ) → IsBytes xs → IsBytes ys → IsBytes (xs ++ ys)
IsBytes-append xs ys h k i =
    elim (cases_lt i (length xs)) [
      | inl below ↦ rw (get_or-append xs ys 0 i below) (h i)
      | inr above ↦ rw (get_or-append_right xs ys i 0 above) (k (i - length xs))
    ]

IsBytes-word : (word : ℕ) → IsBytes (to_be_bytes w32 word)
IsBytes-word word zero = omega arith
IsBytes-word word (suc zero) = omega arith
IsBytes-word word (suc (suc zero)) = omega arith
IsBytes-word word (suc (suc (suc zero))) = omega arith
IsBytes-word word (suc (suc (suc (suc i)))) = omega arith

IsBytes-digest_bytes : (hash : List ℕ) (n : ℕ) → IsBytes (digest_bytes hash n)
unfolding digest_bytes
IsBytes-digest_bytes hash zero = λ i. omega arith
IsBytes-digest_bytes hash (suc n) =
    IsBytes-append (digest_bytes hash n) (to_be_bytes w32 (get_or hash n 0)) (IsBytes-digest_bytes hash n) (IsBytes-word (get_or hash n 0))

IsBytes-sha256 : (message : List ℕ) → IsBytes (sha256 message)
unfolding sha256
IsBytes-sha256 message = IsBytes-digest_bytes _ 8

length-hmac : (key text : List ℕ) → length (hmac key text) ≡ 32
unfolding hmac
length-hmac key text = length-sha256 _

IsBytes-hmac : (key text : List ℕ) → IsBytes (hmac key text)
unfolding hmac
IsBytes-hmac key text = IsBytes-sha256 _

-- a code is written in 64 digits of lower-case hex
pub IsMac-mac_of : (key text : List ℕ) → IsMac (mac_of key text)
IsMac-mac_of key text = record {
  sized =
      let len = length-hmac key text in
      let twice = length-encode_with lower_digits (hmac key text) in
      twice ∙ ap (λ n. 2 * n) len;
  lower = lower-encode (hmac key text) (IsBytes-hmac key text);
}
