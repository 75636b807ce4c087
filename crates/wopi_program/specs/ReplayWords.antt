-- The words of the command `replay`. (Own.)
use Rattle.std.specs.Prelude.{◌≡◌, ◌<◌, ◌≤◌, ◌^◌, ℕ, List, [], ◌∷◌, codes, decimal}
use Rattle.wopi_program.specs.declared.replay_words.ReplayAsk.{ReplayAsk}
use Rattle.wopi_program.specs.declared.replay_words.ReplayAsk.TheVariants.{Input, Generated}

-- replay SEED COUNT
pub record IsGeneratedRow (words : List (List ℕ)) (seed count : ℕ) : Type 0 where
  pub words_are : words ≡ codes "replay" ∷ decimal seed ∷ decimal count ∷ []
  pub seed_is : seed < 2 ^ 64
  pub count_is : count ≤ 10000

abbrev pub IsReplayRow : List (List ℕ) → ReplayAsk → Type 0
IsReplayRow words Input = words ≡ codes "replay" ∷ []
IsReplayRow words (Generated seed count) = IsGeneratedRow words seed count

-- the words are those of some `replay`
abbrev pub IsReplay : List (List ℕ) → Type 0
IsReplay words = (ask : ReplayAsk) × IsReplayRow words ask
