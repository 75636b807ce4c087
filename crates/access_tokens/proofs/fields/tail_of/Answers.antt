use Rattle.access_tokens.proofs.Parts.{more_than_five, some_parts, taken_off}
use Rattle.access_tokens.proofs.fields.tail_of.Goals as goal

pub returns-in-Some-clause-none : goal.returns-in-Some-clause-none
returns-in-Some-clause-none c =
    more_than_five _ _ _ _ _ _ _ _ _ _ _ c.in_ok-rights.ensures.some c.in_ok-serial.ensures.some c.in_ok-issued.ensures.some
    c.in_ok-expires.ensures.some c.in-Some.ensures.some (some_parts c.in-Some.field-0.1.now)

pub returns-in-None-clause-some : goal.returns-in-None-clause-some
returns-in-None-clause-some c =
    taken_off _ _ _ _ _ _ _ _ _ _ c.in_ok-rights.ensures.some c.in_ok-serial.ensures.some c.in_ok-issued.ensures.some
    c.in_ok-expires.ensures.some c.in-None.ensures.none
