-- Texts that a byte parts.
use Rattle.std.specs.Prelude.{ℕ, ◌≡◌, false, List, All, ◌==◌}

-- the text has no such byte
abbrev pub Lacks : ℕ → List ℕ → Type 0
Lacks mark text = All (λ byte. (byte == mark) ≡ false) text
