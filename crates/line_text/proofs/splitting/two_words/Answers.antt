use Rattle.line_text.proofs.Splits.{more_than_two, two_taken}
use Rattle.line_text.proofs.splitting.two_words.Goals as goal

pub returns-then-has_more-clause-none : goal.returns-then-has_more-clause-none
returns-then-has_more-clause-none c =
    more_than_two _ _ _ c.in_ok-first.ensures.some (c.has_more.ensures.more c.if-has_more.true)

pub returns-clause-some : goal.returns-clause-some
returns-clause-some c =
    two_taken _ _ _ _ c.in_ok-first.ensures.some (c.has_more.ensures.one c.if-has_more.false)
