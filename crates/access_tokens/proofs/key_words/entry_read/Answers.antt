use Rattle.access_tokens.proofs.WordLemmas.{entry_halves, no_colon}
use Rattle.access_tokens.proofs.key_words.entry_read.Goals as goal

pub returns-in_err-digits-clause-none : goal.returns-in_err-digits-clause-none
returns-in_err-digits-clause-none c =
    rw c.from_residual.ensures (λ entry. no_colon entry c.args.text.now c.in_err-digits.ensures.none)

pub returns-in_err-number-clause-none : goal.returns-in_err-number-clause-none
returns-in_err-number-clause-none c =
    rw c.from_residual-in_err-number.ensures (λ entry told.
    cc ((c.in_err-number.ensures entry.number).1 (told.number_is, (entry_halves entry _ _ _ c.in_ok-digits.ensures.some told).0)))

pub returns-in_err-key-clause-none : goal.returns-in_err-key-clause-none
returns-in_err-key-clause-none c =
    rw c.from_residual-in_err-key.ensures (λ entry told.
    cc (c.in_err-key.ensures.exact.1 (entry.key, (entry_halves entry _ _ _ c.in_ok-digits.ensures.some told).1)))
