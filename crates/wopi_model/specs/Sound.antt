-- What holds of every file of a shard: ids are spent once, and a held id is not among them.
use Rattle.std.specs.Prelude.{◌≡◌, ⊤, false, List, [], ◌∷◌, Option, None, Some}
use Rattle.wopi_model.specs.declared.locks.Lock.{Lock}
use Rattle.wopi_model.specs.declared.locks.Spent.{Spent}
use Rattle.wopi_model.specs.File.{File}
use Rattle.wopi_model.specs.Act.{is_spent}

-- no id stands there twice
abbrev pub AreDistinct : List Spent → Type 0
AreDistinct [] = ⊤
AreDistinct (one ∷ spent) = (is_spent spent one.id ≡ false) × AreDistinct spent

-- the id that is held is not spent
abbrev pub IsUnspent : Option Lock → List Spent → Type 0
IsUnspent None spent = ⊤
IsUnspent (Some lock) spent = is_spent spent lock.id ≡ false

pub record IsSound (file : File) : Type 0 where
  pub held : IsUnspent file.lock file.spent
  pub once : AreDistinct file.spent
