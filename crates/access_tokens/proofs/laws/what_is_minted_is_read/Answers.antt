use Rattle.std.proofs.Common.{Some, refl}
use Rattle.access_tokens.proofs.Bytes.{IsMac-mac_of}
use Rattle.access_tokens.proofs.Verdicts.{own_key}
use Rattle.access_tokens.proofs.laws.what_is_minted_is_read.Goals as goal

pub returns : goal.returns
returns c = λ keys token form. (
  Some keys.current.number,
  keys.current.key,
  own_key keys,
  record { number = keys.current.range; form = form; digits = IsMac-mac_of keys.current.key _; fields = refl },
)
