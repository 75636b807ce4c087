-- What a run of `token` promises. (Own.)
use Rattle.std.specs.Prelude.{◌⊎◌, ℕ, List, ◌++◌, codes}
use Rattle.access_tokens.specs.TokenText.{token_text}
use Rattle.wopi_model.specs.declared.token.Token.{Token}
use Rattle.wopi_program.specs.declared.outside_world.Outside.{Outside}
use Rattle.wopi_program.specs.Meanings.{Meanings}
use Rattle.wopi_program.specs.Words.{IsTokenRow}
use Rattle.wopi_program.specs.Telling.{TextEnds, Wants}
use Rattle.access_tokens.specs.declared.keys.Keys.{Keys}

-- the token's text under the keys, and a line feed
abbrev pub token_line : Keys → Token → List ℕ
token_line keys token = token_text keys token ++ codes "\n"

module _ {S K F N D C G L : Type 0} (m : Meanings S K F N D C G L) where
  -- The line of the words' token under their keys was written, or a front of it where the output failed.
  pub record TokenTold (words : List (List ℕ)) (status : ℕ) (old new : Outside S K F N D C G) : Type 0 where
    pub keys : Keys
    pub token : Token
    pub row : IsTokenRow words keys token
    pub told : TextEnds m (token_line keys token) status old new

  abbrev pub TokenEnds : List (List ℕ) → ℕ → Outside S K F N D C G → Outside S K F N D C G → Type 0
  TokenEnds words status old new = Wants m status old new ⊎ TokenTold words status old new
