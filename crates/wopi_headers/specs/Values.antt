-- What was found under a name.
use Rattle.std.specs.Prelude.{ℕ, ◌≡◌, ◌<◌, ◌+◌, List, Some}
use Rattle.wopi_http.specs.declared.message.Field.{Field}
use Rattle.wopi_http.specs.Fields.{count_named}
use Rattle.wopi_headers.specs.declared.reading.Value.{Value}
use Rattle.wopi_headers.specs.declared.reading.Value.TheVariants.{Missing, Once, Several}
use Rattle.wopi_headers.specs.Readings.{value_named, IsOnce}

-- The first field of the name has this value, and these are the fields behind it.
pub record IsFirst (name : List ℕ) (fields : List Field) (value : List ℕ) (rest : List Field) : Type 0 where
  pub value_is : value_named name fields ≡ Some value
  pub count_is : count_named name fields ≡ 1 + count_named name rest

abbrev pub IsValue : List ℕ → List Field → Value → Type 0
IsValue name fields Missing = count_named name fields ≡ 0
IsValue name fields (Once value) = IsOnce name fields value.now
IsValue name fields Several = 1 < count_named name fields
