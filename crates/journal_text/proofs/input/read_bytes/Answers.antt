use Rattle.std.proofs.Common.{◌≡◌, ap, Err}
use Rattle.line_text.specs.declared.input.InputFault.TheVariants.{Text}
use Rattle.journal_text.specs.declared.input.SizeFault.TheVariants.{TooLong}
use Rattle.journal_text.proofs.input.read_bytes.Goals as goal

pub returns-in-Err-clause-long : goal.returns-in-Err-clause-long
returns-in-Err-clause-long g c = λ is.
    let same : c.in-Err.fault ≡ Text TooLong = cc is in
    let so = c.in-Err.ensures.refused TooLong (ap (λ f. Err f) same) in
    record { bytes = so.bytes; consumed = so.read; many = so.says }
