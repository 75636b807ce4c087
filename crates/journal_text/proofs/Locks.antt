-- How lock ids are written in hex.
use Rattle.std.proofs.Common.{◌≡◌, ℕ, ◌*◌, ◌/◌, ◌<◌, List, [], ◌∷◌, Ok, length, ap, ◌∙◌, refl, arith, inl, inr}
use Rattle.std.proofs.lemmas.Bool.{cases_lt}
use Rattle.std.proofs.lemmas.List.{get_or_past}
use Rattle.hex.specs.Hex.{IsBytes, decode_sized, encode_lower, lower_digits}
use Rattle.hex.proofs.HexLemmas.{decode_sized-encode_lower, length-encode_with}
use Rattle.wopi_text.specs.LockId.{IsLockId}
use Rattle.host_table.specs.Text.{hex_text}

-- the bytes of a lock id
pub IsBytes-lock : (id : List ℕ) → IsLockId id → IsBytes id
IsBytes-lock id h = λ i. elim (cases_lt i (length id)) [
  | inl below ↦ (let seen = h.printable i 0 below in omega (arith, seen.1))
  | inr above ↦ (let none = get_or_past id i 0 above in omega (arith, none))
]

pub some_hex : (id : List ℕ) → 0 < length id → hex_text id ≡ encode_lower id
some_hex [] some = absurd (omega arith)
some_hex (byte ∷ bytes) some = refl

pub lock_hex : (id : List ℕ) → IsLockId id → hex_text id ≡ encode_lower id
lock_hex id h = some_hex id h.not_empty

-- two digits for each byte
pub length-lock : (word id : List ℕ) → IsLockId id → word ≡ hex_text id → length word ≡ 2 * length id
length-lock word id h e = ap length (e ∙ lock_hex id h) ∙ length-encode_with lower_digits id

pub decode_sized-lock : (word id : List ℕ) (n : ℕ) → IsLockId id → word ≡ hex_text id → length word / 2 ≡ n → decode_sized word n ≡ Ok id
decode_sized-lock word id n h e half =
    let len = length-lock word id h e in
    ap (λ b. decode_sized b n) (e ∙ lock_hex id h) ∙ decode_sized-encode_lower id n (omega (arith, len, half)) (IsBytes-lock id h)

pub same_lock : (word id decoded : List ℕ) (n : ℕ) → IsLockId id → word ≡ hex_text id → length word / 2 ≡ n → decode_sized word n ≡ Ok decoded → decoded ≡ id
same_lock word id decoded n h e half is =
    let own = decode_sized-lock word id n h e half in cc
