-- What a log does that closes listeners. (Own.)
use Rattle.std.specs.Prelude.{◌≡◌, Option, None, Result, Ok, Err}
use Rattle.outside.specs.declared.faults.Failed.{Failed}

-- at a fault no listeners are left, and else the same ones
abbrev pub ClosesAtFault : {T H : Type 0} → Result T Failed → Option H → Option H → Type 0
ClosesAtFault (Ok value) old new = new ≡ old
ClosesAtFault (Err fault) old new = new ≡ None
