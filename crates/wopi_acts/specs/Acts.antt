-- The acts of an operation. (MS-WOPI.)
use Rattle.std.specs.Prelude.{ℕ, List, Option, None, Some, unwrap_or}
use Rattle.wopi_headers.specs.declared.ask.Op.{Op}
use Rattle.wopi_headers.specs.declared.ask.Op.TheVariants as op
use Rattle.wopi_model.specs.declared.calls.Act.{Act}
use Rattle.wopi_model.specs.declared.calls.Act.TheVariants as act

-- the one act of an operation, with the request's body; PutRelativeFile is more than one
abbrev pub act_of : Op → List ℕ → Option Act
act_of op.Info body = Some act.Info
act_of (op.Get most) body = Some (act.Get most)
act_of (op.Put lock) body = Some (act.Put lock body)
act_of (op.Lock id) body = Some (act.Lock id)
act_of op.GetLock body = Some act.GetLock
act_of (op.Refresh id) body = Some (act.Refresh id)
act_of (op.Unlock id) body = Some (act.Unlock id)
act_of (op.Relock old id) body = Some (act.Relock old id)
act_of (op.PutRelative target) body = None
act_of op.Delete body = Some act.Delete

-- the first act of an operation: PutRelativeFile begins with a look at its source
abbrev pub act_with : List ℕ → Op → Act
act_with body asked = unwrap_or (act_of asked body) act.Look
