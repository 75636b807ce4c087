use Rattle.std.proofs.Common.{Err, refl}
use Rattle.wopi_client.specs.declared.driving.DriveFault.TheVariants as fault
use Rattle.wopi_client.proofs.Losing.{ignores_first}
use Rattle.wopi_client.proofs.laws.only_the_wish_is_ignored.Goals as goal

pub returns : goal.returns
returns c = λ desktop nonce session left input other exchanges sound talk.
    let found = ignores_first desktop nonce session input exchanges left (Err (fault.Ignored other)) other talk sound refl in
    (found.0, found.1, found.2)
