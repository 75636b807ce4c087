use Rattle.std.proofs.Common.{refl}
use Rattle.access_tokens.proofs.Bytes.{IsMac-mac_of}
use Rattle.access_tokens.proofs.Verdicts.{own_key}
use Rattle.containers.proofs.laws.what_is_minted_for_the_container_is_read.Goals as goal

pub returns : goal.returns
returns c = λ keys token form. (
  keys.current.number,
  keys.current.key,
  own_key keys,
  record { range = keys.current.range; form = form; digits = IsMac-mac_of keys.current.key _; fields = refl },
)
