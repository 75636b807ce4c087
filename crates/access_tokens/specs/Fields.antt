-- The fields of a token's text, which periods part.
use Rattle.std.specs.Prelude.{ℕ, List, [], ◌∷◌, ◌++◌, Option, None, Some, codes, decimal, ◌==◌}
use Rattle.std.specs.List.{slice_split}
use Rattle.wopi_text.specs.Ids.{id_of}
use Rattle.wopi_model.specs.declared.token.Token.{Token}
use Rattle.access_tokens.specs.declared.claims.Claims.{Claims}
use Rattle.access_tokens.specs.declared.fields.Fields.{Fields}
use Rattle.access_tokens.specs.declared.fields.Tail.{Tail}
use Rattle.access_tokens.specs.TokenText.{period, rights_of}

-- the parts of a text between its periods
abbrev pub parts_of : List ℕ → List (List ℕ)
parts_of text = slice_split (λ byte. byte == period) text

-- the fields that a text begins with: its version, and from version 2 on the number of its key
abbrev pub head_fields : Option ℕ → List (List ℕ)
head_fields None = codes "v1" ∷ []
head_fields (Some number) = codes "v2" ∷ decimal number ∷ []

-- the fields that end a token's text, in their order
abbrev pub tail_list : Tail → List (List ℕ)
tail_list tail = tail.rights.now ∷ tail.serial.now ∷ tail.issued.now ∷ tail.expires.now ∷ tail.mac.now ∷ []

-- the fields behind the head, in their order
abbrev pub list_of : Fields → List (List ℕ)
list_of fields = fields.user.now ∷ fields.id.now ∷ tail_list fields.tail

-- the fields that tell claims, and these digits of a code
abbrev pub claim_fields : Claims → List ℕ → List (List ℕ)
claim_fields claims mac =
    rights_of claims.write ∷ decimal claims.serial ∷ decimal claims.issued ∷ decimal claims.expires ∷ mac ∷ []

-- what a token claims beside its user
abbrev pub claims_of : Token → Claims
claims_of token = record { write = token.write; serial = token.serial; issued = token.issued; expires = token.expires }

-- the fields that tell a token, and these digits of a code
abbrev pub token_fields : Token → List ℕ → List (List ℕ)
token_fields token mac = token.user ∷ id_of token.file ∷ claim_fields (claims_of token) mac

-- the fields of a token's text with these digits of a code
abbrev pub fields_of : Option ℕ → Token → List ℕ → List (List ℕ)
fields_of written token mac = head_fields written ++ token_fields token mac
