use Rattle.line_text.proofs.Splits.{more_than_six, six_taken}
use Rattle.journal_text.proofs.tokens.split.Goals as goal

pub returns-then-has_mark-clause-none : goal.returns-then-has_mark-clause-none
returns-then-has_mark-clause-none c =
    more_than_six _ _ _ _ _ _ _ _ _ _ _ c.in_ok-user.ensures.some c.in_ok-id.ensures.some
    c.in_ok-rights.ensures.some c.in_ok-serial.ensures.some c.in_ok-issued.ensures.some (c.has_mark.ensures.some c.if-has_mark.true)

pub returns-clause-some : goal.returns-clause-some
returns-clause-some c =
    six_taken _ _ _ _ _ _ _ _ _ _ _ _ c.in_ok-user.ensures.some c.in_ok-id.ensures.some
    c.in_ok-rights.ensures.some c.in_ok-serial.ensures.some c.in_ok-issued.ensures.some (c.has_mark.ensures.none c.if-has_mark.false)
