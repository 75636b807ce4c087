use Rattle.std.proofs.Common.{◌≡◌, ◌-◌, ℕ, sym, ap, ◌∙◌}
use Rattle.host_core.specs.Value.{InMemory, state_of}
use Rattle.replay_cmd.specs.declared.faultless.FaultlessFolder.{FaultlessFolder}
use Rattle.replay_cmd.specs.Hosts.{Watch}
use Rattle.replay_cmd.proofs.Greatest.{greatest_next, not_past, state_first}
use Rattle.replay_cmd.proofs.watched.Watched.greatest.Goals as goal

pub loop-place-init : goal.loop-place-init
loop-place-init c =
    let book = c.args.self.now.shard in
    let first : c.self.inside.first ≡ c.args.self.now.shard.begin.first = c.self.invariant.2 ∙ ap (λ (w : Watch (InMemory FaultlessFolder)). w.shard.begin.first) c.self.view_is in
    c.saturating_sub-greatest.ensures ∙ ap (λ (n : ℕ). n - 1) (first ∙ sym (state_first book))

pub unreachable-requires : goal.unreachable-requires
unreachable-requires c =
    not_past _ c.get.result c.args.names.now c.loop-place.place c.len-place-end.result c.get.ensures c.in_default.is c.len-place-end.ensures c.loop-place-test.true

pub loop-place-preserved : goal.loop-place-preserved
loop-place-preserved c =
    let book = c.args.self.now.shard in
    c.max-greatest.ensures
    ∙ greatest_next (state_of book.begin book.made book.time) c.args.names.now c.loop-place.place c.in-Some.name.now c.loop-place.greatest c.size_of-version.result.0
    c.in-Some.ensures c.size_of-version.ensures.version c.loop-place.invariant
