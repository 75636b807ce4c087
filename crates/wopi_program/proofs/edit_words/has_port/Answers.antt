use Rattle.std.proofs.Common.{arith, rules}
use Rattle.wopi_program.proofs.EditRows.{no_port}
use Rattle.wopi_program.proofs.edit_words.has_port.Goals as goal

pub returns : goal.returns
returns c = (λ no. absurd (search rules), λ has. absurd (no_port c.args.bytes.now (λ at low within. c.places.invariant at low (omega (arith, within))) has))
