use Rattle.std.proofs.Common.{◌≡◌, ◌<◌, ◌+◌, ℕ, suc, List, ◌∷◌, ◌++◌, Some, length, get_or, take, drop, ap, sym, ◌∙◌, arith, rules}
use Rattle.std.proofs.lemmas.List.{length-take-le, take_rest}
use Rattle.journal_segments.specs.Rows.{filled}
use Rattle.journal_segments.proofs.Fronts.{at_place}
use Rattle.journal_segments.proofs.walking.contents_front.Goals as goal

pub returns-then-behind-size : goal.returns-then-behind-size
returns-then-behind-size c = (omega arith, omega arith, omega arith)

pub returns-then-behind-size-ne10 : goal.returns-then-behind-size-ne10
returns-then-behind-size-ne10 c =
    let bytes = c.args.behind.now in
    let n = c.args.size in
    let many = c.if-behind-size.false in
    let below : n < length bytes = omega (arith, many) in (
      take n bytes,
      get_or bytes n 0,
      drop (suc n) bytes,
      length-take-le n bytes (omega (arith, below)),
      at_place bytes n below,
      search rules,
    )

pub returns : goal.returns
returns c =
    let bytes = c.args.behind.now in
    let n = c.args.size in
    let many = c.if-behind-size.false in
    let below : n < length bytes = omega (arith, many) in
    let feed : get_or bytes n 0 ≡ 10 = search rules in
    let next : suc n ≡ n + 1 = omega arith in
    let held : c.in_ok-contents.contents ≡ take n bytes = c.in_ok-contents.ensures in (
      take n bytes,
      length-take-le n bytes (omega (arith, below)),
      c.filled.ensures ∙ ap (λ (b : List ℕ). filled c.args.row (Some b)) held,
      at_place bytes n below ∙ ap (λ (b : ℕ). take n bytes ++ b ∷ drop (suc n) bytes) feed ∙ ap (λ (k : ℕ). take n bytes ++ 10 ∷ drop k bytes) next
          ∙ ap (λ (l : List ℕ). take n bytes ++ 10 ∷ l) (sym (take_rest bytes (n + 1))),
    )
