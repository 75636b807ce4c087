-- Bytes that are written in lower-case hex.
use Rattle.std.proofs.Common.{◌≡◌, ℕ, suc, ◌/◌, ◌%◌, ◌<◌, true, false, List, [], ◌∷◌, get_or, refl, arith}
use Rattle.std.specs.List.{list_all}
use Rattle.std.proofs.lemmas.List.Sums.{AllPass-from_list_all}
use Rattle.hex.specs.Hex.{IsBytes, encode_lower, encode_with, lower_digits}
use Rattle.wopi_model.specs.User.{is_user_byte}
use Rattle.host_table.specs.Text.{hex_text}
use Rattle.line_text.proofs.Splits.{Lacks, Lacks-list_all}

-- each of the sixteen digits is a letter or a digit
digit : (place : ℕ) → place < 16 → is_user_byte (get_or lower_digits place 0) ≡ true
digit place h = AllPass-from_list_all is_user_byte lower_digits refl place 0 h

-- hex has letters and digits alone
pub letters-encode : (bytes : List ℕ) → IsBytes bytes → list_all is_user_byte (encode_lower bytes) ≡ true
unfolding encode_with
letters-encode [] h = refl
letters-encode (byte ∷ rest) h =
    let small : byte < 256 = h 0 in
    let high = digit (byte / 16) (omega arith) in
    let low = digit (byte % 16) (omega arith) in
    let more = letters-encode rest (λ k. h (suc k)) in
    rw (high, low) more

pub Lacks-hex : (mark : ℕ) (bytes : List ℕ) → is_user_byte mark ≡ false → IsBytes bytes → Lacks mark (encode_lower bytes)
Lacks-hex mark bytes apart form = Lacks-list_all mark is_user_byte (encode_lower bytes) apart (letters-encode bytes form)

-- and so has what is written where there are bytes or none
pub Lacks-hex_text : (mark : ℕ) (bytes : List ℕ) → is_user_byte mark ≡ false → IsBytes bytes → Lacks mark (hex_text bytes)
Lacks-hex_text mark [] apart form = Lacks-list_all mark is_user_byte _ apart refl
Lacks-hex_text mark (byte ∷ bytes) apart form = Lacks-hex mark (byte ∷ bytes) apart form
