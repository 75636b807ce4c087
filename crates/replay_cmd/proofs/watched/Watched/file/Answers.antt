use Rattle.std.proofs.Common.{◌≤◌, ◌↔◌, IsSome, IfSome, ap, ◌∙◌, subst}
use Rattle.host_core.specs.Value.{Book, InMemory, is_torn}
use Rattle.host_core.specs.View.{IsViewOf}
use Rattle.replay_cmd.specs.declared.faultless.FaultlessFolder.{FaultlessFolder}
use Rattle.replay_cmd.specs.Hosts.{Watch}
use Rattle.replay_cmd.specs.Replying.{file_in}
use Rattle.replay_cmd.proofs.watched.Watched.file.Goals as goal

pub returns-clause-met : goal.returns-clause-met
returns-clause-met c =
    subst (λ (b : Book (InMemory FaultlessFolder)). IsSome c.file.result ↔ (b.begin.first ≤ (file_in b c.args.name.now).version))
    (c.shard.ensures ∙ ap (λ (w : Watch (InMemory FaultlessFolder)). w.shard) c.self.view_is) c.file.ensures.met

pub returns-clause-view : goal.returns-clause-view
returns-clause-view c =
    subst (λ (b : Book (InMemory FaultlessFolder)). IfSome c.file.result (λ view. IsViewOf view (file_in b c.args.name.now) (is_torn b.made c.args.name.now)))
    (c.shard.ensures ∙ ap (λ (w : Watch (InMemory FaultlessFolder)). w.shard) c.self.view_is) c.file.ensures.view
