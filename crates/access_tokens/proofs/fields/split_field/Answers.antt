use Rattle.access_tokens.proofs.Parts.{parts_of-alone, parts_of-parted}
use Rattle.access_tokens.proofs.fields.split_field.Goals as goal

pub returns-in_err-field-clause-none : goal.returns-in_err-field-clause-none
returns-in_err-field-clause-none c = rw c.from_residual.ensures (parts_of-alone c.args.text.now c.in_err-field.ensures.none)

pub returns-clause-some : goal.returns-clause-some
returns-clause-some c =
    let parted = c.in_ok-field.ensures.some in
    parts_of-parted c.args.text.now c.in_ok-field.field.now c.in_ok-field.rest.now parted.0 parted.1
