use Rattle.std.proofs.Common.{sym, ap, ◌∙◌}
use Rattle.wopi_text.specs.Decimals.{decimal_of}
use Rattle.wopi_text.proofs.Decimals.{decimal_of-some, decimal_of-decimal}
use Rattle.line_text.proofs.values.number_read.Goals as goal

pub returns : goal.returns
returns c = λ number. (
  λ some. decimal_of-some _ number (sym c.decimal_read.ensures ∙ some),
  λ form. c.decimal_read.ensures ∙ ap decimal_of form.1 ∙ decimal_of-decimal number form.0,
)
