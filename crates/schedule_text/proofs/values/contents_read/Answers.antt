use Rattle.std.proofs.Common.{◌≤◌, ℕ, List, Option, length, arith}
use Rattle.std.proofs.lemmas.Result.{IfOk-weaker}
use Rattle.schedule_text.proofs.WordValues.{few_found, many_digits}
use Rattle.schedule_text.proofs.values.contents_read.Goals as goal

pub returns-then-word-gt-MOST_DIGITS-clause-none : goal.returns-then-word-gt-MOST_DIGITS-clause-none
returns-then-word-gt-MOST_DIGITS-clause-none c = λ contents form says. many_digits c.args.word.now contents c.if-word-gt-MOST_DIGITS.true form says

pub returns-clause-some : goal.returns-clause-some
returns-clause-some c =
    let few : length c.args.word.now ≤ 16384 = omega (arith, c.if-word-gt-MOST_DIGITS.false) in
    IfOk-weaker c.hex_read.result _ _ (λ (read : Option (List ℕ)) says. few_found c.args.word.now read few says) c.hex_read.ensures.some
