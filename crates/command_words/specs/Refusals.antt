-- Why words are refused. (Own.)
use Rattle.std.specs.Prelude.{⊤, ℕ, List}
use Rattle.command_words.specs.declared.around.Around.{Around}
use Rattle.command_words.specs.declared.wrong.Refused.{Refused}
use Rattle.command_words.specs.declared.wrong.Refused.TheVariants.{Words, Memory}
use Rattle.command_words.specs.Meaning.{Means}

-- they are wrong for this reason; want of memory needs none
abbrev pub IsFor : Type 0 → Refused → Type 0
IsFor P (Words wrong) = P
IsFor P Memory = ⊤

-- at that moment and with that nonce at hand the words mean nothing
abbrev pub MeansNothing : ℕ → List ℕ → List (List ℕ) → Type 0
MeansNothing now own given = (words : List (List ℕ)) (around : Around) → Means now own given words around → ⊥
