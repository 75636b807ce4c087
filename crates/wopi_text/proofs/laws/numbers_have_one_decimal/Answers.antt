use Rattle.std.proofs.Common.{ap, ◌∙◌}
use Rattle.wopi_text.specs.Decimals.{decimal_of}
use Rattle.wopi_text.proofs.Decimals.{decimal_of-some, decimal_of-decimal}
use Rattle.wopi_text.proofs.laws.numbers_have_one_decimal.Goals as goal

pub returns : goal.returns
returns c = λ digits number. (
  decimal_of-some digits number,
  λ form. ap decimal_of form.1 ∙ decimal_of-decimal number form.0,
)
