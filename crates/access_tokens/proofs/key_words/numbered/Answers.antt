use Rattle.std.proofs.Common.{refl, ◌∙◌}
use Rattle.access_tokens.specs.Keys.{two}
use Rattle.access_tokens.proofs.WordLemmas.{one_number, only_bare, pair_or_bare}
use Rattle.access_tokens.proofs.key_words.numbered.Goals as goal

pub returns-in_err-current-clause-none : goal.returns-in_err-current-clause-none
returns-in_err-current-clause-none c =
    rw c.from_residual.ensures (only_bare c.args.word.now c.in_default.ensures.none c.in_err-current.ensures.none)

pub returns-in_err-current-2-clause-none : goal.returns-in_err-current-2-clause-none
returns-in_err-current-2-clause-none c =
    rw c.from_residual-in_err-current-2.ensures (pair_or_bare c.args.word.now c.in-Some.first.now c.in-Some.second.now c.in-Some.ensures.some
    (λ current former told also. absurd (c.in_err-current-2.ensures.none current told)))

pub returns-in_err-former-clause-none : goal.returns-in_err-former-clause-none
returns-in_err-former-clause-none c =
    rw c.from_residual-in_err-former.ensures (pair_or_bare c.args.word.now c.in-Some.first.now c.in-Some.second.now c.in-Some.ensures.some
    (λ current former told also. absurd (c.in_err-former.ensures.none former also)))

pub returns-then-former-current-clause-none : goal.returns-then-former-current-clause-none
returns-then-former-current-clause-none c =
    pair_or_bare c.args.word.now c.in-Some.first.now c.in-Some.second.now c.in-Some.ensures.some
    (λ current former told also.
    one_number former c.in_ok-former.former c.in-Some.second.now also c.in_ok-former.ensures.some
    ∙ c.if-former-current.true
    ∙ one_number c.in_ok-current-2.current current c.in-Some.first.now c.in_ok-current-2.ensures.some told)

pub returns-clause-some : goal.returns-clause-some
returns-clause-some c =
    two c.in_ok-former.former c.in-Some.first.now c.in-Some.second.now c.in_ok-current-2.ensures.some c.in_ok-former.ensures.some
    refl c.in-Some.ensures.some.0
