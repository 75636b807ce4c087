-- What a command asks to be made of the outside world. (Own.)
use Rattle.std.specs.Prelude.{◌≡◌, ⊤, ℕ, is_some, Option, List, [], ◌∷◌}
use Rattle.std.specs.Option.{option_copied}
use Rattle.wopi_program.specs.declared.serve_words.ServeAsk.{ServeAsk}
use Rattle.wopi_program.specs.declared.asking.Asked.{Asked}
use Rattle.wopi_program.specs.declared.asking.Asked.TheVariants.{Once, Serve, Edit, Nothing}

-- the word behind the first
abbrev pub second_of : List (List ℕ) → List ℕ
second_of [] = []
second_of (first ∷ []) = []
second_of (first ∷ second ∷ words) = second

-- `once` over this folder
abbrev pub IsOnceOver : List ℕ → Asked → Type 0
IsOnceOver name (Once folder) = folder.now ≡ name
IsOnceOver name (Serve folder numbers logs) = ⊥
IsOnceOver name (Edit authority) = ⊥
IsOnceOver name Nothing = ⊥

-- `serve` over this folder, with these numbers
abbrev pub IsServeOver : List ℕ → ServeAsk → Asked → Type 0
IsServeOver name ask (Once folder) = ⊥
IsServeOver name ask (Serve folder numbers logs) = (folder.now ≡ name) × (numbers ≡ ask)
IsServeOver name ask (Edit authority) = ⊥
IsServeOver name ask Nothing = ⊥

-- `edit` at this host
abbrev pub IsEditAt : List ℕ → Asked → Type 0
IsEditAt name (Once folder) = ⊥
IsEditAt name (Serve folder numbers logs) = ⊥
IsEditAt name (Edit authority) = authority.now ≡ name
IsEditAt name Nothing = ⊥

-- `serve` that keeps logs in this folder, or none
abbrev pub HasLogs : Option (List ℕ) → Asked → Type 0
HasLogs told (Once folder) = ⊥
HasLogs told (Serve folder numbers logs) = option_copied logs ≡ told
HasLogs told (Edit authority) = ⊥
HasLogs told Nothing = ⊥

-- of `serve` a folder of logs is told exactly where they are kept
abbrev pub IsKept : Asked → Type 0
IsKept (Once folder) = ⊤
IsKept (Serve folder numbers logs) = is_some numbers.keep ≡ is_some logs
IsKept (Edit authority) = ⊤
IsKept Nothing = ⊤
