use Rattle.std.proofs.Common.{rules, ◌∙◌, ap, arith}
use Rattle.turn_lock.proofs.Sharing.{fetches}
use Rattle.turn_lock.proofs.lock.TurnLock.fetch.Goals as goal

pub compare_exchange-found-requires : goal.compare_exchange-found-requires
compare_exchange-found-requires g c = let same = c.loop.invariant in let words = c.self.invariant.0 in (
  search rules,
  omega arith,
  fetches g.V.Grown.entries g.V.Grown.base _ _ _ _ _ (ap (λ m. m.0.stage) same.1 ∙ c.requires.free.0) (omega arith),
)
