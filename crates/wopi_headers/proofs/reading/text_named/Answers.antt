use Rattle.std.proofs.Common.{◌≡◌, ◌<◌, ◌==◌, ℕ, zero, suc, false, length, arith}
use Rattle.wopi_headers.proofs.Targets.{text_found}
use Rattle.wopi_headers.proofs.reading.text_named.Goals as goal

-- a length that isn't zero
some : (n : ℕ) → false ≡ (n == 0) → 0 < n
some zero e = cc
some (suc n) e = omega arith

pub returns-else-is_empty : goal.returns-else-is_empty
returns-else-is_empty c =
    text_found c.args.name.now c.args.fields.now c.in-Once.value.now c.text_of.result c.in-Once.ensures (some (length c.in-Once.value.now) c.if-is_empty.ensures) c.text_of.ensures
