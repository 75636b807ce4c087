use Rattle.std.proofs.Common.{rules, ◌≡◌, [], ◌∷◌, Some}
use Rattle.turn_lock.proofs.Ending.{opens}
use Rattle.turn_lock.proofs.lock.TurnLock.new.Goals as goal

pub new-requires : goal.new-requires
new-requires g c = let same : c.of-about.result.value ≡ c.args.value = search rules in let items : c.push.new.self.items ≡ Some c.args.value ∷ [] = search rules in
    rw (same, items) (opens g.V.Grown.entries g.V.Grown.base c.args.value c.requires)
