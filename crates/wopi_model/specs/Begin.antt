-- What a shard's life begins with.
use Rattle.std.specs.Prelude.{ℕ, List, [], ◌∷◌, map, if◌then◌else◌}
use Rattle.std.specs.Str.{bytes_eq}
use Rattle.wopi_model.specs.File.{File, opened_with}

-- what stands under a name, or what stands under each other one
abbrev pub at_name : {A : Type 0} → A → List (List ℕ × A) → List ℕ → A
at_name other [] name = other
at_name other (one ∷ rest) name = if bytes_eq one.0 name then one.1 else at_name other rest name

-- put in the place of the name's, or behind the others
abbrev pub put_name : {A : Type 0} → List ℕ → A → List (List ℕ × A) → List (List ℕ × A)
put_name name it [] = (name, it) ∷ []
put_name name it (one ∷ rest) = if bytes_eq one.0 name then (one.0, it) ∷ rest else one ∷ put_name name it rest

-- A shard opened anew at the moment `opened`, or one that goes on. `first` is the version of the files of the first opening, `now` the shard's
-- time, and `last` the stamp of the last entry before, or 0. `files` has each name that was met, once.
pub record Begin : Type 0 where
  pub opened : ℕ
  pub first : ℕ
  pub now : ℕ
  pub last : ℕ
  pub files : List (List ℕ × File)

-- over files of an opening, by name and contents, each at version `first` and unlocked
abbrev pub new_life : List (List ℕ × List ℕ) → ℕ → ℕ → Begin
new_life opening opened first =
    record { opened = opened; first = first; now = opened; last = 0; files = map (λ file. (file.0, opened_with first file.1)) opening }
