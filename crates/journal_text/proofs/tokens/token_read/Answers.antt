use Rattle.std.proofs.Common.{length, ap, sym, ◌∙◌}
use Rattle.journal_text.proofs.TokenTexts.{parts_of-text, text_from_parts}
use Rattle.journal_text.proofs.tokens.token_read.Goals as goal

pub returns-in_default-clause-none : goal.returns-in_default-clause-none
returns-in_default-clause-none c = λ token form is. c.in_default.ensures.none (ap length (parts_of-text _ token form is))

pub returns-in_default-token_of-clause-none : goal.returns-in_default-token_of-clause-none
returns-in_default-token_of-clause-none c = λ token form is.
    c.in_default-token_of.ensures.none token form (sym c.in-Some.ensures.some ∙ parts_of-text _ token form is)

pub returns-clause-some : goal.returns-clause-some
returns-clause-some c =
    (c.in-Some-token_of.ensures.some.0, text_from_parts _ _ (c.in-Some.ensures.some ∙ c.in-Some-token_of.ensures.some.1))
