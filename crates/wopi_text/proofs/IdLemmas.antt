-- Ids name their files.
use Rattle.std.proofs.Common.{◌≡◌, ℕ, ◌*◌, ◌/◌, List, Ok, length, ap, ◌∙◌, arith}
use Rattle.hex.specs.Hex.{decode_of, decode_sized, lower_digits}
use Rattle.hex.proofs.HexLemmas.{decode_of-encode_lower, decode_sized-encode_lower, length-encode_with}
use Rattle.wopi_text.specs.FileName.{IsFileName}
use Rattle.wopi_text.specs.Ids.{id_of}
use Rattle.wopi_text.proofs.Utf8Bytes.{IsBytes-IsUtf8}

decode_of-id_of : (name : List ℕ) → IsFileName name → decode_of (id_of name) ≡ Ok name
decode_of-id_of name h = decode_of-encode_lower name (IsBytes-IsUtf8 name h.utf8)

pub id_of-injective : (name other : List ℕ) → IsFileName name → IsFileName other → id_of name ≡ id_of other → name ≡ other
id_of-injective name other h k e =
    let left = decode_of-id_of name h in
    let right = decode_of-id_of other k in
    let across : decode_of (id_of name) ≡ decode_of (id_of other) = ap decode_of e in
    cc

-- an id has two digits for each byte
pub length-id : (bytes name : List ℕ) → bytes ≡ id_of name → length bytes ≡ 2 * length name
length-id bytes name e = ap length e ∙ length-encode_with lower_digits name

-- an id decodes to its name
pub decode_sized-id : (bytes name : List ℕ) (n : ℕ) → IsFileName name → bytes ≡ id_of name → length bytes / 2 ≡ n → decode_sized bytes n ≡ Ok name
decode_sized-id bytes name n h e half =
    let len = length-id bytes name e in
    ap (λ b. decode_sized b n) e ∙ decode_sized-encode_lower name n (omega (arith, len, half)) (IsBytes-IsUtf8 name h.utf8)

-- what an id decodes to is its name
pub same_decoded : (bytes name decoded : List ℕ) (n : ℕ) → IsFileName name → bytes ≡ id_of name → length bytes / 2 ≡ n → decode_sized bytes n ≡ Ok decoded
    → decoded ≡ name
same_decoded bytes name decoded n h e half is =
    let own = decode_sized-id bytes name n h e half in cc
