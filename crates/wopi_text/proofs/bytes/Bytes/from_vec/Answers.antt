use Rattle.std.proofs.Common.{ap, ◌∙◌, List, ℕ}
use Rattle.wopi_text.specs.Bytes.{bytes_of}
use Rattle.wopi_text.proofs.Shorts.{only_long}
use Rattle.wopi_text.proofs.bytes.Bytes.from_vec.Goals as goal

pub returns : goal.returns
returns c = ap (λ (short : List ℕ). bytes_of c.args.v.items short) c.new.ensures ∙ only_long c.args.v.items
