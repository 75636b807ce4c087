-- When a request says that its file was last saved, and what it is answered where it was saved since (Collabora Online's documentation, WOPI extensions; LOOL was the name before COOL. That both fields may stand where they agree is own).
use Rattle.std.specs.Prelude.{ℕ, Bool, ◌||◌, nat_lt, List, Option, Some, None, codes, if◌then◌else◌}
use Rattle.std.specs.Str.{bytes_eq}
use Rattle.wopi_http.specs.declared.message.Field.{Field}
use Rattle.wopi_http.specs.Fields.{count_named}
use Rattle.wopi_headers.specs.declared.known.Known.{Known}
use Rattle.wopi_headers.specs.declared.known.Suite.{Suite}
use Rattle.wopi_headers.specs.declared.known.Suite.TheVariants.{Cool, Lool}
use Rattle.wopi_headers.specs.Readings.{value_named}

abbrev pub cool_name : List ℕ
cool_name = codes "X-COOL-WOPI-Timestamp"

abbrev pub lool_name : List ℕ
lool_name = codes "X-LOOL-WOPI-Timestamp"

-- a text, and by which name it was said
abbrev pub told : Known → Suite × List ℕ
told known = (known.suite, known.text.now)

-- what the values of the two fields say: nothing, or one text; two that differ can't be read
abbrev pub joined : Option (List ℕ) → Option (List ℕ) → Option (Option (Suite × List ℕ))
joined None None = Some None
joined None (Some text) = Some (Some (Lool, text))
joined (Some text) None = Some (Some (Cool, text))
joined (Some text) (Some other) = if bytes_eq text other then Some (Some (Cool, text)) else None

abbrev pub stands_twice : List Field → Bool
stands_twice fields = nat_lt 1 (count_named cool_name fields) || nat_lt 1 (count_named lool_name fields)

-- what the fields say of when the file was last saved; none where it can't be read
unfoldable pub known_in : List Field → Option (Option (Suite × List ℕ))
known_in fields = if stands_twice fields then None else joined (value_named cool_name fields) (value_named lool_name fields)

-- the body of the answer that the file was changed meanwhile
abbrev pub changed_text : Suite → List ℕ
changed_text Cool = codes "{\"COOLStatusCode\":1010}"
changed_text Lool = codes "{\"LOOLStatusCode\":1010}"
