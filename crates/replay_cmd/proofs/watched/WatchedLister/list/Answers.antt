use Rattle.std.proofs.Common.{◌≡◌, sym, subst}
use Rattle.host_core.specs.Value.{Book, InMemory}
use Rattle.replay_cmd.specs.declared.faultless.FaultlessFolder.{FaultlessFolder}
use Rattle.replay_cmd.specs.Hosts.{HasGrown, HasFileNames, IsStamped}
use Rattle.replay_cmd.proofs.watched.WatchedLister.list.Goals as goal

pub invariant_of-self : goal.invariant_of-self
invariant_of-self c =
    subst (λ (b : Book (InMemory FaultlessFolder)). HasGrown c.self.inside.start.value b × IsStamped b × (c.self.inside.first ≡ b.begin.first) × HasFileNames b)
    (sym c.list.ensures.same) c.self.invariant
