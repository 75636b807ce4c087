use Rattle.std.proofs.Common.{◌≡◌, ◌-◌, ℕ, ap, ◌∙◌, subst}
use Rattle.host_core.specs.Value.{InMemory}
use Rattle.replay_cmd.specs.Begun.{IsNew}
use Rattle.replay_cmd.specs.declared.faultless.FaultlessFolder.{FaultlessFolder}
use Rattle.replay_cmd.specs.Hosts.{Watch}
use Rattle.replay_cmd.specs.Replying.{file_in}
use Rattle.replay_cmd.proofs.Counted.{counted_in, uncounted, not_there}
use Rattle.replay_cmd.proofs.watched.Watched.size_of.Goals as goal

pub returns-in-None-clause-version : goal.returns-in-None-clause-version
returns-in-None-clause-version c =
    let first : c.self.inside.first ≡ c.args.self.now.shard.begin.first = c.self.invariant.2 ∙ ap (λ (w : Watch (InMemory FaultlessFolder)). w.shard.begin.first) c.self.view_is in
    let less : c.saturating_sub.result ≡ c.args.self.now.shard.begin.first - 1 = c.saturating_sub.ensures ∙ ap (λ (n : ℕ). n - 1) first in
    let new = subst (λ (w : Watch (InMemory FaultlessFolder)). IsNew w.shard.begin) c.self.view_is c.self.invariant.3.new in
    let file = file_in c.args.self.now.shard c.args.name.now in
    less ∙ (uncounted c.args.self.now.shard.begin.first file (counted_in c.args.self.now.shard c.args.name.now new) (λ there. not_there c.file.result c.in-None.is (c.file.ensures.met.1 there))).0

pub returns-in-None-clause-size : goal.returns-in-None-clause-size
returns-in-None-clause-size c =
    let new = subst (λ (w : Watch (InMemory FaultlessFolder)). IsNew w.shard.begin) c.self.view_is c.self.invariant.3.new in
    let file = file_in c.args.self.now.shard c.args.name.now in
    (uncounted c.args.self.now.shard.begin.first file (counted_in c.args.self.now.shard c.args.name.now new) (λ there. not_there c.file.result c.in-None.is (c.file.ensures.met.1 there))).1
