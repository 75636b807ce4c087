use Rattle.std.proofs.Common.{arith}
use Rattle.hex.proofs.HexLemmas.{decode_of-ok}
use Rattle.access_tokens.proofs.key.Key.read.Goals as goal
use Rattle.access_tokens.proofs.key.Key.read.Goals.{then-half-eq0-via-then-half-eq0, then-half-eq0-via-else-half-eq0+then-half-gt-MOST}

pub returns-then-half-eq0-clause-exact : goal.returns-then-half-eq0-clause-exact
returns-then-half-eq0-clause-exact c = (
  λ e. absurd (cc e),
  λ hex.
      let twice = (decode_of-ok c.args.hex.now hex.0 hex.1.1).2 in
      let some = hex.1.0.0 in
      let short = hex.1.0.1 in
      elim c.then-half-eq0.branch [
        | then-half-eq0-via-then-half-eq0 w ↦ absurd (omega (arith, twice, some, short))
        | then-half-eq0-via-else-half-eq0+then-half-gt-MOST w ↦ absurd (omega (arith, twice, some, short))
      ],
)
