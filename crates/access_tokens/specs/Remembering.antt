-- What is remembered of tokens that were read. (Own.)
use Rattle.std.specs.Prelude.{List}
use Rattle.std.specs.List.{All}
use Rattle.access_tokens.specs.TokenText.{IsSigned}
use Rattle.access_tokens.specs.declared.keys.Keys.{Keys}
use Rattle.access_tokens.specs.declared.remembering.Known.{Known}

-- a text and the token that it has under the keys
abbrev pub IsKnown : Keys → Known → Type 0
IsKnown keys known = IsSigned keys known.text known.token

-- what is remembered was read under these keys
abbrev pub Remembers : Keys → List Known → Type 0
Remembers keys recent = All (IsKnown keys) recent
