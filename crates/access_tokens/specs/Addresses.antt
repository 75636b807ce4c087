-- The addresses of files, as they are told to a client. (MS-WOPI: an address ends with access_token; that a file's is made of a base is own.)
use Rattle.std.specs.Prelude.{ℕ, ◌-◌, Bool, List, ◌++◌, codes, length, slice_index, nat_lt, nat_le, not, ◌==◌, ◌&&◌}
use Rattle.std.specs.List.{list_all}
use Rattle.wopi_text.specs.Ids.{id_of}
use Rattle.wopi_model.specs.declared.token.Token.{Token}
use Rattle.access_tokens.specs.TokenText.{token_text}
use Rattle.access_tokens.specs.declared.keys.Keys.{Keys}

-- neither a blank nor a control character, and ASCII
abbrev pub is_visible : ℕ → Bool
is_visible byte = nat_le 33 byte && nat_le byte 126

-- what addresses begin with: 1 to 200 visible characters without a closing slash
abbrev pub is_base : List ℕ → Bool
is_base base =
    nat_lt 0 (length base) && (nat_le (length base) 200 && (not (slice_index base (length base - 1) == 47) && list_all is_visible base))

-- the address of the file with that id, with that token in its query
unfoldable pub address_text : List ℕ → List ℕ → List ℕ → List ℕ
address_text base id token = base ++ codes "/wopi/files/" ++ id ++ codes "?access_token=" ++ token

-- the address of the file of a token, with that token
abbrev pub address_with : List ℕ → Keys → Token → List ℕ
address_with base keys token = address_text base (id_of token.file) (token_text keys token)
