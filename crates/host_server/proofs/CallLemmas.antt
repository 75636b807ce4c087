-- What a call's contract says, as what became of it.
use Rattle.std.proofs.Common.{ℕ, refl}
use Rattle.wopi_model.specs.declared.calls.Call.{Call}
use Rattle.host_core.specs.Caller.{Sight, HasFloor, Makes, Refuses, Frames, entry_of}
use Rattle.host_core.specs.declared.caller.Receipt.{Receipt}
use Rattle.host_core.specs.declared.caller.CallFault.TheVariants as fault
use Rattle.host_server.specs.declared.calling.Called.TheVariants.{Ruled, Full}
use Rattle.host_server.specs.Calls.{Calls}
use Rattle.host_server.proofs.DeedLemmas.{does_make, does_block}

module _ (always : Sight → Type 0) (old new : Sight) (call : Call) (moment : ℕ) where
  pub makes_calls : (receipt : Receipt) → Makes old new call moment receipt → Frames old new call.name → HasFloor old → always old → always new
      → Calls always old new call moment (Ruled receipt.ruling receipt.back)
  makes_calls receipt makes frame floor before after = (
    entry_of old.pass call moment receipt,
    (refl, refl),
    refl,
    makes.back,
    does_make always old new call moment receipt makes frame floor before after,
  )

  pub full_calls : (held : Call) → Refuses old new call moment (fault.Full held) → Frames old new call.name → HasFloor old → always old → always new
      → Calls always old new call moment Full
  full_calls held refuses frame floor before after =
      (refuses.full tt, does_block always old new call moment (fault.Full held) refuses frame (refuses.full tt) floor before after)
