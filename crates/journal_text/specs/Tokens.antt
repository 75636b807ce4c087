-- The fields of a token without its code.
use Rattle.std.specs.Prelude.{ℕ, List, [], ◌∷◌}
use Rattle.journal_text.specs.declared.tokens.Fields.{Fields}

-- the fields in their order
abbrev pub list_of : Fields → List (List ℕ)
list_of fields =
    fields.user.now ∷ fields.id.now ∷ fields.rights.now ∷ fields.serial.now ∷ fields.issued.now ∷ fields.expires.now ∷ []
