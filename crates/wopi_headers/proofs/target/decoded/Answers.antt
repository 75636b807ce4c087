use Rattle.std.proofs.Common.{◌≡◌, ◌==◌, false, IfOk, ℕ, List, sym, ap, subst, ◌∙◌}
use Rattle.std.specs.List.{list_any}
use Rattle.percent_encoding.specs.Percent.{percent_decode}
use Rattle.wopi_headers.proofs.Escapes.{decoded_plain}
use Rattle.wopi_headers.proofs.target.decoded.Goals as goal

pub returns-then-not-contains : goal.returns-then-not-contains
returns-then-not-contains c =
    let value = c.cut_at.result.1.now in
    let none : list_any (λ b. b == 37) value ≡ false = sym c.contains.ensures.value ∙ c.if-not-contains.true in
    subst (λ (bytes : List ℕ). IfOk c.from_slice.result (λ kept. kept ≡ bytes)) (sym (decoded_plain value none) ∙ ap percent_decode c.cut_at.ensures.after) c.from_slice.ensures
