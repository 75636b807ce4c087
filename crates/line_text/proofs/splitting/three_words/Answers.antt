use Rattle.line_text.proofs.Splits.{more_than_three, three_taken}
use Rattle.line_text.proofs.splitting.three_words.Goals as goal

pub returns-then-has_more-clause-none : goal.returns-then-has_more-clause-none
returns-then-has_more-clause-none c =
    more_than_three _ _ _ _ _ c.in_ok-first.ensures.some c.in_ok-second.ensures.some (c.has_more.ensures.more c.if-has_more.true)

pub returns-clause-some : goal.returns-clause-some
returns-clause-some c =
    three_taken _ _ _ _ _ _ c.in_ok-first.ensures.some c.in_ok-second.ensures.some (c.has_more.ensures.one c.if-has_more.false)
