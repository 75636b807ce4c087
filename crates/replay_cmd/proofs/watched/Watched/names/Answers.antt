use Rattle.std.proofs.Common.{ap, ◌∙◌, subst}
use Rattle.wopi_model.specs.Shard.{AreNames}
use Rattle.host_core.specs.Value.{Book, InMemory, state_of}
use Rattle.replay_cmd.specs.declared.faultless.FaultlessFolder.{FaultlessFolder}
use Rattle.replay_cmd.specs.Hosts.{Watch}
use Rattle.replay_cmd.proofs.watched.Watched.names.Goals as goal

pub returns : goal.returns
returns c =
    subst (λ (b : Book (InMemory FaultlessFolder)). AreNames (state_of b.begin b.made b.time) c.in_ok-names.names)
    (c.shard.ensures ∙ ap (λ (w : Watch (InMemory FaultlessFolder)). w.shard) c.self.view_is) c.in_ok-names.ensures
