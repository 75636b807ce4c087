use Rattle.std.proofs.Common.{rules, ◌∙◌, ap, arith}
use Rattle.turn_lock.proofs.Turning.{looks}
use Rattle.turn_lock.proofs.lock.TurnLock.wait_for.Goals as goal

pub load-requires : goal.load-requires
load-requires g c = let same = c.loop.invariant in let words = c.self.invariant.0 in (
  search rules,
  omega arith,
  looks g.V.Grown.entries g.V.Grown.base _ _ _ _ (ap (λ m. m.0.stage) same.1 ∙ c.requires.drawn),
)
