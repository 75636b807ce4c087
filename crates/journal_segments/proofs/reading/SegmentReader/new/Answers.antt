use Rattle.std.proofs.Common.{◌≡◌, ◌+◌, ℕ, List, [], length, refl, sym, ap, subst, arith, rules}
use Rattle.line_text.specs.Words.{IsRow}
use Rattle.journal_segments.proofs.reading.SegmentReader.new.Goals as goal

no_row : IsRow []
no_row = λ i d below. absurd (omega (arith, below))

pub returns : goal.returns
returns g c =
    let none : c.new.result.items ≡ [] = search rules in
    let len : length c.new.result.items ≡ 0 = ap length none in
    record {
      reaches = (none, refl, subst IsRow (sym none) no_row, ap (λ (l : List ℕ). length l + 1) (sym none), c.requires);
      size = refl;
      few = omega arith;
      count = omega (arith, len);
    }
