-- Tokens and addresses are of ASCII alone.
use Rattle.std.proofs.Common.{◌≡◌, ◌<◌, ◌^◌, ◌-◌, ℕ, zero, suc, Bool, true, false, nat_lt, List, [], ◌∷◌, ◌++◌, length, slice_index, codes, decimal, Some, refl, arith}
use Rattle.std.specs.Prelude.{nat_le, not, ◌==◌}
use Rattle.std.specs.List.{list_all}
use Rattle.std.specs.Str.{IsUtf8, IsAscii}
use Rattle.std.proofs.lemmas.Bool.{and_parts}
use Rattle.std.proofs.lemmas.Str.{IsAscii-append, IsUtf8-from_ascii}
use Rattle.std.proofs.lemmas.Fmt.{IsAscii-decimal}
use Rattle.hex.specs.Hex.{encode_lower, lower_digits}
use Rattle.hex.proofs.HexLemmas.{IsAscii-encode_with}
use Rattle.wopi_text.specs.Ids.{id_of}
use Rattle.wopi_model.specs.Moment.{IsMoment}
use Rattle.wopi_model.specs.declared.token.Token.{Token}
use Rattle.wopi_model.specs.User.{IsUser, is_user_byte}
use Rattle.access_tokens.specs.Addresses.{is_base, is_visible, address_text, address_with}
use Rattle.access_tokens.specs.Keys.{IsKeyNumber}
use Rattle.access_tokens.specs.declared.keys.Keys.{Keys}
use Rattle.access_tokens.specs.TokenText.{IsWritable, head_text, period, rights_of, signed_text, mac_of, token_text}

pub all_ascii : (test : ℕ → Bool) → ((byte : ℕ) → test byte ≡ true → byte < 128) → (text : List ℕ) → list_all test text ≡ true → IsAscii text
all_ascii test low [] all i = omega arith
all_ascii test low (byte ∷ text) all zero = low byte (and_parts (test byte) (list_all test text) all).0
all_ascii test low (byte ∷ text) all (suc i) = all_ascii test low text (and_parts (test byte) (list_all test text) all).1 i

abbrev is_low : ℕ → Bool
is_low byte = nat_lt byte 128

pub literal : (text : List ℕ) → list_all is_low text ≡ true → IsAscii text
literal text all = all_ascii is_low (λ byte low. grind (arith, low)) text all

letter_is_low : (byte : ℕ) → is_user_byte byte ≡ true → byte < 128
letter_is_low byte letter = grind (arith, letter)

pub user_is_ascii : (user : List ℕ) → IsUser user → IsAscii user
user_is_ascii user form = all_ascii is_user_byte letter_is_low user form.letters

visible_is_low : (byte : ℕ) → is_visible byte ≡ true → byte < 128
visible_is_low byte visible = grind (arith, visible)

pub base_is_ascii : (base : List ℕ) → is_base base ≡ true → IsAscii base
base_is_ascii base form =
    let some = and_parts (nat_lt 0 (length base)) _ form in
    let short = and_parts (nat_le (length base) 200) _ some.1 in
    let open_end = and_parts (not (slice_index base (length base - 1) == 47)) _ short.1 in
    all_ascii is_visible visible_is_low base open_end.1

pub hex_is_ascii : (bytes : List ℕ) → IsAscii (encode_lower bytes)
hex_is_ascii bytes = IsAscii-encode_with lower_digits bytes (literal lower_digits refl)

-- one more field of a token's text
field_is_ascii : (text field : List ℕ) → IsAscii text → IsAscii field → IsAscii (text ++ period ∷ field)
field_is_ascii text field before here =
    IsAscii-append text (period ∷ field) before (IsAscii-append (period ∷ []) field (literal (period ∷ []) refl) here)

rights_are_ascii : (write : Bool) → IsAscii (rights_of write)
rights_are_ascii true = literal (codes "w") refl
rights_are_ascii false = literal (codes "r") refl

moment_fits : (moment : ℕ) → IsMoment moment → moment < 2 ^ 64
moment_fits moment is = grind (arith, is)

head_is_ascii : (number : ℕ) → IsKeyNumber number → IsAscii (head_text (Some number))
head_is_ascii number can = field_is_ascii (codes "v2") (decimal number) (literal (codes "v2") refl) (IsAscii-decimal number (omega (arith, can)))

signed_is_ascii : (number : ℕ) (token : Token) → IsKeyNumber number → IsWritable token → IsAscii (signed_text (Some number) token)
unfolding signed_text
signed_is_ascii number token can form =
    let to_user = head_text (Some number) ++ period ∷ token.user in
    let to_id = to_user ++ period ∷ id_of token.file in
    let to_rights = to_id ++ period ∷ rights_of token.write in
    let to_serial = to_rights ++ period ∷ decimal token.serial in
    let to_issued = to_serial ++ period ∷ decimal token.issued in
    let user = field_is_ascii (head_text (Some number)) token.user (head_is_ascii number can) (user_is_ascii token.user form.user) in
    let id = field_is_ascii to_user (id_of token.file) user (hex_is_ascii token.file) in
    let rights = field_is_ascii to_id (rights_of token.write) id (rights_are_ascii token.write) in
    let serial = field_is_ascii to_rights (decimal token.serial) rights (IsAscii-decimal token.serial form.serial) in
    let issued = field_is_ascii to_serial (decimal token.issued) serial (IsAscii-decimal token.issued (moment_fits token.issued form.issued)) in
    field_is_ascii to_issued (decimal token.expires) issued (IsAscii-decimal token.expires (moment_fits token.expires form.expires))

pub token_is_ascii : (keys : Keys) (token : Token) → IsWritable token → IsAscii (token_text keys token)
token_is_ascii keys token form =
    field_is_ascii (signed_text (Some keys.current.number) token) (mac_of keys.current.key (signed_text (Some keys.current.number) token))
    (signed_is_ascii keys.current.number token keys.current.range form) (hex_is_ascii _)

pub address_is_text : (base : List ℕ) (keys : Keys) (token : Token) → is_base base ≡ true → IsWritable token → IsUtf8 (address_with base keys token)
unfolding address_text
address_is_text base keys token form can =
    let id = id_of token.file in
    let to_path = base ++ codes "/wopi/files/" in
    let to_id = to_path ++ id in
    let to_query = to_id ++ codes "?access_token=" in
    let path = IsAscii-append base (codes "/wopi/files/") (base_is_ascii base form) (literal (codes "/wopi/files/") refl) in
    let file = IsAscii-append to_path id path (hex_is_ascii token.file) in
    let query = IsAscii-append to_id (codes "?access_token=") file (literal (codes "?access_token=") refl) in
    IsUtf8-from_ascii _ (IsAscii-append to_query (token_text keys token) query (token_is_ascii keys token can))
