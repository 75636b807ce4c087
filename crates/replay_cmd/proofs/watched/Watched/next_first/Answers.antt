use Rattle.std.proofs.Common.{◌+◌, ℕ, sym, subst, arith}
use Rattle.host_core.specs.Value.{InMemory, state_of}
use Rattle.wopi_world.specs.History.{IsNextFirst}
use Rattle.replay_cmd.specs.declared.faultless.FaultlessFolder.{FaultlessFolder}
use Rattle.replay_cmd.specs.Begun.{IsNew}
use Rattle.replay_cmd.specs.Hosts.{Watch}
use Rattle.replay_cmd.proofs.Greatest.{next_of_names}
use Rattle.replay_cmd.proofs.watched.Watched.next_first.Goals as goal

pub returns-clause-next : goal.returns-clause-next
returns-clause-next c =
    let book = c.args.self.now.shard in
    let new = subst (λ (w : Watch (InMemory FaultlessFolder)). IsNew w.shard.begin) c.self.view_is c.self.invariant.3.new in
    let below = c.if-greatest-ge-MOST_FIRST.false in (
      subst (λ (n : ℕ). IsNextFirst (state_of book.begin book.made book.time) (n + 1)) (sym c.greatest-greatest.ensures)
          (next_of_names book c.in_ok-names.names new c.in_ok-names.ensures),
      (omega arith, omega (arith, below)),
    )
