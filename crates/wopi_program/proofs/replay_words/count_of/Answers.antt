use Rattle.std.proofs.Common.{◌≡◌, Some, None, arith}
use Rattle.wopi_text.specs.Decimals.{decimal_of}
use Rattle.wopi_text.proofs.Decimals.{decimal_of-some}
use Rattle.wopi_program.proofs.ReplayRows.{no_decimal, same_value}
use Rattle.wopi_program.proofs.replay_words.count_of.Goals as goal

pub returns-in_default-clause-none : goal.returns-in_default-clause-none
returns-in_default-clause-none c =
    let is : decimal_of c.args.word.now ≡ None = cc (c.in_default.ensures, c.as_bytes.ensures.value) in
    λ count few same. no_decimal c.args.word.now count is (omega (arith, few)) same

pub returns-then-count-gt-MOST_EVENTS-clause-none : goal.returns-then-count-gt-MOST_EVENTS-clause-none
returns-then-count-gt-MOST_EVENTS-clause-none c =
    let is : decimal_of c.args.word.now ≡ Some c.in-Some.count = cc (c.in-Some.ensures, c.as_bytes.ensures.value) in
    let many = c.if-count-gt-MOST_EVENTS.true in
    λ count few same. (let value = same_value c.args.word.now c.in-Some.count count is (omega (arith, few)) same in absurd (omega (arith, few, value, many)))

pub returns-clause-some : goal.returns-clause-some
returns-clause-some c =
    let is : decimal_of c.args.word.now ≡ Some c.in-Some.count = cc (c.in-Some.ensures, c.as_bytes.ensures.value) in
    let few = c.if-count-gt-MOST_EVENTS.false in
    ((decimal_of-some c.args.word.now c.in-Some.count is).1, omega (arith, few))
