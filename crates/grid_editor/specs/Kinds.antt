-- Commands by what their lines carry.
use Rattle.std.specs.Prelude.{ℕ, ◌≡◌, ◌<◌, ◌^◌, List, ◌∷◌, ◌++◌, codes, decimal, ⊤}
use Rattle.wopi_text.specs.FileName.{IsFileName}
use Rattle.grid_editor.specs.declared.command.Command.{Command}
use Rattle.grid_editor.specs.declared.command.Command.TheVariants.{Open, Set, InsRow, DelRow, InsCol, DelCol, Show, Values, Undo, Save, SaveAs, Refresh, Close}

-- a word alone
abbrev pub IsBare : Command → Type 0
IsBare Open = ⊤
IsBare Show = ⊤
IsBare Values = ⊤
IsBare Undo = ⊤
IsBare Save = ⊤
IsBare Refresh = ⊤
IsBare Close = ⊤
IsBare command = ⊥

-- a word and a number
abbrev pub IsNumbered : Command → Type 0
IsNumbered (InsRow row) = ⊤
IsNumbered (DelRow row) = ⊤
IsNumbered (InsCol column) = ⊤
IsNumbered (DelCol column) = ⊤
IsNumbered command = ⊥

-- the line is a `set` of this text
abbrev pub SaysSet : List ℕ → ℕ → ℕ → List ℕ → Type 0
SaysSet line row column text =
    (row < 2 ^ 64) × (column < 2 ^ 64) × (line ≡ codes "set " ++ (decimal row ++ (32 ∷ (decimal column ++ (32 ∷ text)))))

-- the line is a `saveas` under this name
abbrev pub SaysName : List ℕ → List ℕ → Type 0
SaysName line name = IsFileName name × (line ≡ codes "saveas " ++ name)
