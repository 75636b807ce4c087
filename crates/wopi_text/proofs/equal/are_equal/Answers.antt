use Rattle.std.proofs.Common.{get_or, ap, arith, below_more}
use Rattle.std.proofs.lemmas.Bool.{eqb-true, eq-eqb}
use Rattle.std.proofs.lemmas.Grind.{same_number_lists}
use Rattle.wopi_text.proofs.Differences.{no_difference, same_so_far}
use Rattle.wopi_text.proofs.equal.are_equal.Goals as goal

pub loop-i-preserved : goal.loop-i-preserved
loop-i-preserved c = (
  λ none.
      let so_far = no_difference c.loop-i.differences _ _ none in
      below_more _ _ (c.loop-i.invariant.0 so_far.0) so_far.1,
  λ same.
      same_so_far c.loop-i.differences _ _ (c.loop-i.invariant.1 (λ k h. same k (omega arith))) (same c.loop-i.i (omega arith)),
)

pub returns : goal.returns
returns c = (
  λ none. same_number_lists _ _ c.if-first-second.false (λ k h. c.loop-i.invariant.0 (eqb-true _ _ none) k (omega arith)),
  λ same. eq-eqb _ _ (c.loop-i.invariant.1 (λ k h. ap (λ xs. get_or xs k 0) same)),
)
