-- What a run of `ctoken` promises. (Own.)
use Rattle.std.specs.Prelude.{◌⊎◌, ℕ, List, ◌++◌, codes}
use Rattle.access_tokens.specs.declared.keys.Keys.{Keys}
use Rattle.containers.specs.TokenText.{container_text}
use Rattle.containers.specs.declared.token.ContainerToken.{ContainerToken}
use Rattle.wopi_program.specs.CtokenWords.{IsCtokenRow}
use Rattle.wopi_program.specs.declared.outside_world.Outside.{Outside}
use Rattle.wopi_program.specs.Meanings.{Meanings}
use Rattle.wopi_program.specs.Telling.{TextEnds, Wants}

-- the text of the container's token under the keys, and a line feed
abbrev pub container_line : Keys → ContainerToken → List ℕ
container_line keys token = container_text keys token ++ codes "\n"

module _ {S K F N D C G L : Type 0} (m : Meanings S K F N D C G L) where
  -- The line of the words' token under their keys was written, or a front of it where the output failed.
  pub record CtokenTold (words : List (List ℕ)) (status : ℕ) (old new : Outside S K F N D C G) : Type 0 where
    pub keys : Keys
    pub token : ContainerToken
    pub row : IsCtokenRow words keys token
    pub told : TextEnds m (container_line keys token) status old new

  abbrev pub CtokenEnds : List (List ℕ) → ℕ → Outside S K F N D C G → Outside S K F N D C G → Type 0
  CtokenEnds words status old new = Wants m status old new ⊎ CtokenTold words status old new
