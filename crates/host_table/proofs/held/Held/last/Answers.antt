use Rattle.std.proofs.Common.{List, ap, ◌∙◌}
use Rattle.wopi_model.specs.Shard.{Entry, stamps, last_from}
use Rattle.host_core.specs.Value.{Book}
use Rattle.host_core.proofs.Timing.{entries-history}
use Rattle.host_table.specs.Histories.{last_stamp}
use Rattle.host_table.proofs.held.Held.last.Goals as goal

pub returns : goal.returns
returns g c =
    let shard : Book g.row.F.Denot = c.self.inside.shard in
    c.last.ensures ∙ (ap (λ (es : List Entry). last_from shard.begin.last (stamps es)) (entries-history shard.made shard.time) ∙ ap (λ (b : Book g.row.F.Denot). last_stamp b.begin.last b.made) c.self.view_is)
