-- A file of a shard: one part of it is kept with its name, the other one under its number.
use Rattle.std.specs.Prelude.{ℕ, zero, suc, Bool, List, [], ◌∷◌, Option}
use Rattle.wopi_model.specs.declared.locks.Lock.{Lock}
use Rattle.wopi_model.specs.declared.locks.Spent.{Spent}
use Rattle.kept_locks.specs.Locks.{Standing, Locks, unlocked}
use Rattle.host_core.specs.declared.file.KeptFile.{KeptFile}

pub record Whole : Type 0 where
  pub name : List ℕ
  pub contents : Option (List ℕ)
  pub version : ℕ
  pub lock : Option Lock
  pub spent : List Spent
  pub torn : Bool

abbrev pub whole : KeptFile → Standing → Whole
whole kept standing = record { name = kept.name; contents = kept.contents; version = kept.version; lock = standing.lock; spent = standing.spent; torn = kept.torn }

-- what stands under a number; a number of no file was never locked
abbrev pub standing_at : List Standing → ℕ → Standing
standing_at [] number = unlocked
standing_at (standing ∷ standings) zero = standing
standing_at (standing ∷ standings) (suc number) = standing_at standings number

abbrev pub seen : KeptFile → Locks → ℕ → Whole
seen kept locks number = whole kept (standing_at locks.files number)

-- the files, each with what stands under the number of its place
abbrev pub joined : List KeptFile → List Standing → List Whole
joined [] standings = []
joined (kept ∷ files) [] = whole kept unlocked ∷ joined files []
joined (kept ∷ files) (standing ∷ standings) = whole kept standing ∷ joined files standings
