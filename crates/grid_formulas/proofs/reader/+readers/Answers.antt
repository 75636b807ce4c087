use Rattle.std.proofs.Common.{◌≡◌, ◌-◌, ◌<◌, [], ◌∷◌, ◌++◌, length, Some, None, option_map, sym, ◌∙◌, ap, arith}
use Rattle.grid_formulas.specs.Reading.{behind, product_at, sign_at, star_at, unary_at}
use Rattle.grid_formulas.proofs.ReaderLemmas.{adds_if_none, adds_if_some, adds_none, adds_some, more_ended, more_fails, more_goes_on, more_none, regroup, unary_negative, unary_parentheses, unary_plain}
use Rattle.grid_formulas.proofs.reader.+readers.Goals as goal

pub product-returns-in_default-star : goal.product-returns-in_default-star
product-returns-in_default-star t c =
    let inv = c.unaries.invariant in
    let none : star_at c.unaries.rest.now ≡ None = sym c.in_default-star.ensures in
    adds_if_some c.args.steps.now.items c.unaries.steps.items inv.0 _ _
    (inv.2 ∙ more_none star_at (unary_at c.args.depth) (length c.in-Some.rest.now - c.unaries.counter) inv.0 c.unaries.rest.now none) inv.1

pub product-returns-in_default-2 : goal.product-returns-in_default-2
product-returns-in_default-2 t c =
    let inv = c.unaries.invariant in
    let lt : c.unaries.counter < length c.in-Some.rest.now = omega arith in
    let operator : star_at c.unaries.rest.now ≡ Some (c.in-Some-star.operation, c.in-Some-star.operand.now) = sym c.in-Some-star.ensures in
    let fails = adds_none c.unaries.steps.items c.unary-in-unaries.new.steps.items _ ((unary_at c.args.depth) c.in-Some-star.operand.now) (ap (option_map (λ s. s.now)) c.in_default-2.is) c.in_ok-behind.ensures in
    adds_if_none _ _ _
    (inv.2 ∙ more_fails star_at (unary_at c.args.depth) (length c.in-Some.rest.now) c.unaries.counter inv.0 c.unaries.rest.now c.in-Some-star.operation c.in-Some-star.operand.now lt operator fails)

pub product-unaries-preserved : goal.product-unaries-preserved
product-unaries-preserved t c =
    let inv = c.unaries.invariant in
    let lt : c.unaries.counter < length c.in-Some.rest.now = omega arith in
    let operator : star_at c.unaries.rest.now ≡ Some (c.in-Some-star.operation, c.in-Some-star.operand.now) = sym c.in-Some-star.ensures in
    let found = adds_some c.unaries.steps.items c.unary-in-unaries.new.steps.items _ c.in-Some-2.behind.now ((unary_at c.args.depth) c.in-Some-star.operand.now) (ap (option_map (λ s. s.now)) c.in-Some-2.is) c.in_ok-behind.ensures in
    let items : c.push.new.self.items ≡ c.unary-in-unaries.new.steps.items ++ c.in-Some-star.operation ∷ [] = c.in_ok-push.ensures.items in (
      (inv.0 ++ found.0) ++ c.in-Some-star.operation ∷ [],
      items ∙ ap (λ l. l ++ c.in-Some-star.operation ∷ []) (found.2 ∙ ap (λ l. l ++ found.0) inv.1) ∙ regroup c.args.steps.now.items inv.0 found.0 c.in-Some-star.operation,
      inv.2 ∙ more_goes_on star_at (unary_at c.args.depth) (length c.in-Some.rest.now) c.unaries.counter inv.0 found.0 c.unaries.rest.now c.in-Some-star.operation c.in-Some-star.operand.now c.in-Some-2.behind.now lt operator found.1,
    )

pub product-returns : goal.product-returns
product-returns t c =
    let inv = c.unaries.invariant in
    let ended : length c.in-Some.rest.now - c.unaries.counter ≡ 0 = omega arith in
    adds_if_some c.args.steps.now.items c.unaries.steps.items inv.0 _ _
    (inv.2 ∙ more_ended star_at (unary_at c.args.depth) (length c.in-Some.rest.now - c.unaries.counter) inv.0 c.unaries.rest.now ended) inv.1

pub sum-returns-in_default-sign : goal.sum-returns-in_default-sign
sum-returns-in_default-sign t c =
    let inv = c.products.invariant in
    let none : sign_at c.products.rest.now ≡ None = sym c.in_default-sign.ensures in
    adds_if_some c.args.steps.now.items c.products.steps.items inv.0 _ _
    (inv.2 ∙ more_none sign_at (product_at (unary_at c.args.depth)) (length c.in-Some.rest.now - c.products.counter) inv.0 c.products.rest.now none) inv.1

pub sum-returns-in_default-2 : goal.sum-returns-in_default-2
sum-returns-in_default-2 t c =
    let inv = c.products.invariant in
    let lt : c.products.counter < length c.in-Some.rest.now = omega arith in
    let operator : sign_at c.products.rest.now ≡ Some (c.in-Some-sign.operation, c.in-Some-sign.operand.now) = sym c.in-Some-sign.ensures in
    let fails = adds_none c.products.steps.items c.product-in-products.new.steps.items _ ((product_at (unary_at c.args.depth)) c.in-Some-sign.operand.now) (ap (option_map (λ s. s.now)) c.in_default-2.is) c.in_ok-behind.ensures in
    adds_if_none _ _ _
    (inv.2 ∙ more_fails sign_at (product_at (unary_at c.args.depth)) (length c.in-Some.rest.now) c.products.counter inv.0 c.products.rest.now c.in-Some-sign.operation c.in-Some-sign.operand.now lt operator fails)

pub sum-products-preserved : goal.sum-products-preserved
sum-products-preserved t c =
    let inv = c.products.invariant in
    let lt : c.products.counter < length c.in-Some.rest.now = omega arith in
    let operator : sign_at c.products.rest.now ≡ Some (c.in-Some-sign.operation, c.in-Some-sign.operand.now) = sym c.in-Some-sign.ensures in
    let found = adds_some c.products.steps.items c.product-in-products.new.steps.items _ c.in-Some-2.behind.now ((product_at (unary_at c.args.depth)) c.in-Some-sign.operand.now) (ap (option_map (λ s. s.now)) c.in-Some-2.is) c.in_ok-behind.ensures in
    let items : c.push.new.self.items ≡ c.product-in-products.new.steps.items ++ c.in-Some-sign.operation ∷ [] = c.in_ok-push.ensures.items in (
      (inv.0 ++ found.0) ++ c.in-Some-sign.operation ∷ [],
      items ∙ ap (λ l. l ++ c.in-Some-sign.operation ∷ []) (found.2 ∙ ap (λ l. l ++ found.0) inv.1) ∙ regroup c.args.steps.now.items inv.0 found.0 c.in-Some-sign.operation,
      inv.2 ∙ more_goes_on sign_at (product_at (unary_at c.args.depth)) (length c.in-Some.rest.now) c.products.counter inv.0 found.0 c.products.rest.now c.in-Some-sign.operation c.in-Some-sign.operand.now c.in-Some-2.behind.now lt operator found.1,
    )

pub sum-returns : goal.sum-returns
sum-returns t c =
    let inv = c.products.invariant in
    let ended : length c.in-Some.rest.now - c.products.counter ≡ 0 = omega arith in
    adds_if_some c.args.steps.now.items c.products.steps.items inv.0 _ _
    (inv.2 ∙ more_ended sign_at (product_at (unary_at c.args.depth)) (length c.in-Some.rest.now - c.products.counter) inv.0 c.products.rest.now ended) inv.1

pub unary-returns-in-Some : goal.unary-returns-in-Some
unary-returns-in-Some t c =
    let some : behind 45 c.args.text.now ≡ Some c.in-Some.operand.now = sym c.in-Some.ensures in
    let deep : 0 < c.args.depth = omega arith in
    rw (unary_negative c.args.depth c.args.text.now c.in-Some.operand.now deep some) c.negative.ensures

pub unary-returns-in-Some-behind : goal.unary-returns-in-Some-behind
unary-returns-in-Some-behind t c =
    let none : behind 45 c.args.text.now ≡ None = sym c.in_default.ensures in
    let some : behind 40 c.args.text.now ≡ Some c.in-Some-behind.inner.now = sym c.in-Some-behind.ensures in
    let deep : 0 < c.args.depth = omega arith in
    rw (unary_parentheses c.args.depth c.args.text.now c.in-Some-behind.inner.now deep none some) c.parentheses.ensures

pub unary-returns : goal.unary-returns
unary-returns t c =
    let no_sign : behind 45 c.args.text.now ≡ None = sym c.in_default.ensures in
    let no_parenthesis : behind 40 c.args.text.now ≡ None = sym c.in_default-behind.ensures in
    rw (unary_plain c.args.depth c.args.text.now no_sign no_parenthesis) c.plain-2.ensures
