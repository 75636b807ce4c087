-- What was read of an input, and the whole of it.
use Rattle.std.proofs.Common.{ℕ, List, [], ◌++◌, Option, None, Some, ap, ◌∙◌, append-nil}
use Rattle.std.specs.Io.KnownBytes.{Consumes, IsAtEnd}
use Rattle.outside.specs.Stream.{Are}
use Rattle.line_text.specs.Inputs.{HasRead}

-- an input of which nothing is left is what was read
pub at_its_end : (left left' : Option (List ℕ)) (front : List ℕ) → Consumes left left' front → IsAtEnd left' → Are left front
at_its_end None left' front read end = tt
at_its_end (Some left) None front read end = absurd read
at_its_end (Some left) (Some rest) front read end = read ∙ ap (λ l. front ++ l) end ∙ append-nil front

-- an input begins with what was read
pub whole_of : (left left' : Option (List ℕ)) (front : List ℕ) → Consumes left left' front → (rest : List ℕ) × Are left (front ++ rest)
whole_of None left' front read = ([], tt)
whole_of (Some left) None front read = absurd read
whole_of (Some left) (Some rest) front read = (rest, read)

pub read_weaker : (left left' : Option (List ℕ)) (P Q : List ℕ → Type 0) → ((bytes : List ℕ) → P bytes → Q bytes) → HasRead left left' P → HasRead left left' Q
read_weaker left left' P Q on so = record { bytes = so.bytes; read = so.read; says = on so.bytes so.says }
