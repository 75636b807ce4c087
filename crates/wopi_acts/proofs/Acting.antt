-- Which operations are one act.
use Rattle.std.proofs.Common.{◌≡◌, ℕ, List, None, Some, refl, ap}
use Rattle.std.specs.Prelude.{◌↔◌}
use Rattle.wopi_headers.specs.declared.ask.Op.{Op}
use Rattle.wopi_headers.specs.declared.ask.Op.TheVariants as op
use Rattle.wopi_headers.specs.declared.ask.Target.{Target}
use Rattle.wopi_acts.specs.Acts.{act_of, act_with}

-- an operation that is one act
pub acts : (asked : Op) (body : List ℕ) → ((target : Target) → asked ≡ op.PutRelative target → ⊥) → act_of asked body ≡ Some (act_with body asked)
acts op.Info body one = refl
acts (op.Get most) body one = refl
acts (op.Put lock) body one = refl
acts (op.Lock id) body one = refl
acts op.GetLock body one = refl
acts (op.Refresh id) body one = refl
acts (op.Unlock id) body one = refl
acts (op.Relock old id) body one = refl
acts (op.PutRelative target) body one = absurd (one target refl)
acts op.Delete body one = refl

more_than_one : (asked : Op) (body : List ℕ) → act_of asked body ≡ None → (target : Target) × (asked ≡ op.PutRelative target)
more_than_one op.Info body h = cc
more_than_one (op.Get most) body h = cc
more_than_one (op.Put lock) body h = cc
more_than_one (op.Lock id) body h = cc
more_than_one op.GetLock body h = cc
more_than_one (op.Refresh id) body h = cc
more_than_one (op.Unlock id) body h = cc
more_than_one (op.Relock old id) body h = cc
more_than_one (op.PutRelative target) body h = (target, refl)
more_than_one op.Delete body h = cc

pub only_a_copy : (asked : Op) (body : List ℕ) → act_of asked body ≡ None ↔ ((target : Target) × (asked ≡ op.PutRelative target))
only_a_copy asked body = (more_than_one asked body, λ h. ap (λ (o : Op). act_of o body) h.1)
