use Rattle.std.proofs.Common.{◌≡◌, ◌⊎◌, ◌<◌, ◌≤◌, ◌+◌, ℕ, length, None, sym, subst, arith}
use Rattle.kept_locks.specs.Locks.{Standing}
use Rattle.host_core.specs.Whole.{standing_at}
use Rattle.host_core.proofs.Regains.{held_more, stands_get, whole_at}
use Rattle.host_core.proofs.relocking.are_all_held.Goals as goal

pub told-preserved : goal.told-preserved
told-preserved c =
    let told = c.args.told.now.items in
    let files = c.args.locks.now.files in
    let place = c.told.place in
    let lt : place < length told = omega (arith, c.told-test.true, c.len.ensures, c.args.told.now.ok.0) in
    let one = stands_get told place c.index.result.now lt c.index.ensures in
    let held : ((standing_at told place).lock ≡ None) ⊎ ((standing_at files place).lock ≡ None → ⊥) =
    subst (λ (s : Standing). (s.lock ≡ None) ⊎ ((standing_at files place).lock ≡ None → ⊥)) (sym one) (c.is_held.ensures c.if-not-is_held.false) in (
      omega (arith, lt),
      held_more place told files c.told.invariant.1 (whole_at told files place (c.requires.part place) held),
    )
