use Rattle.std.proofs.Common.{◌≡◌, None, arith, rules}
use Rattle.wopi_text.specs.Decimals.{decimal_of}
use Rattle.wopi_program.proofs.EditRows.{is_port_then, is_port_else, no_port_read}
use Rattle.wopi_program.proofs.edit_words.is_port.Goals as goal

pub returns-then-port-gt0 : goal.returns-then-port-gt0
returns-then-port-gt0 c = is_port_then c.args.digits.now c.in-Some.port (search rules) (omega arith)

pub returns-else-port-gt0 : goal.returns-else-port-gt0
returns-else-port-gt0 c = is_port_else c.args.digits.now c.in-Some.port (search rules) (omega arith)

pub returns-in-None : goal.returns-in-None
returns-in-None c =
    let is : decimal_of c.args.digits.now ≡ None = search rules in
    (λ no. absurd (search rules), λ has. absurd (no_port_read c.args.digits.now is has))
