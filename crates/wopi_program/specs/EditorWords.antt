-- The words for editors, behind those that stand in every row of `serve` and `once`: `--editor`, and behind it `--origin` and the origin of the page that they stand in. (Own.)
use Rattle.std.specs.Prelude.{ℕ, Bool, false, if◌then◌else◌, List, [], ◌∷◌, codes, Option, None, Some, IfSome}
use Rattle.std.specs.Str.{bytes_eq}
use Rattle.access_tokens.specs.Origins.{IsOrigin}

-- whether `--editor` stands in front of these words
abbrev pub serves_editors : List (List ℕ) → Bool
serves_editors [] = false
serves_editors (word ∷ words) = bytes_eq word (codes "--editor")

-- what `--origin` in front of these words names
abbrev pub origin_in : List (List ℕ) → Option (List ℕ)
origin_in [] = None
origin_in (name ∷ []) = None
origin_in (name ∷ origin ∷ words) = if bytes_eq name (codes "--origin") then Some origin else None

-- the words behind it and its value, or all of them where it doesn't stand there
abbrev pub behind_origin : List (List ℕ) → List (List ℕ)
behind_origin [] = []
behind_origin (name ∷ []) = name ∷ []
behind_origin (name ∷ origin ∷ words) = if bytes_eq name (codes "--origin") then words else name ∷ origin ∷ words

-- the origin that is told to editors, where these words name one behind `--editor`
abbrev pub origin_told : List (List ℕ) → Option (List ℕ)
origin_told [] = None
origin_told (word ∷ words) = if bytes_eq word (codes "--editor") then origin_in words else None

-- the words behind all of these, or all of them where `--editor` doesn't stand there
abbrev pub behind_editor : List (List ℕ) → List (List ℕ)
behind_editor [] = []
behind_editor (word ∷ words) = if bytes_eq word (codes "--editor") then behind_origin words else word ∷ words

-- what is told is an origin
abbrev pub TellsOrigin : List (List ℕ) → Type 0
TellsOrigin words = IfSome (origin_told words) IsOrigin
