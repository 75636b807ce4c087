use Rattle.std.proofs.Common.{List, ◌++◌, ap, sym, ◌∙◌, append-nil}
use Rattle.host_core.specs.Entries.{Made}
use Rattle.host_log.specs.Logs.{LogView}
use Rattle.host_log.proofs.Keeping.{unlost}
use Rattle.host_log.proofs.logged.Logged.is_whole.Goals as goal

pub returns-clause-told : goal.returns-clause-told
returns-clause-told g c = λ whole.
    let i = c.self.inside in
    sym (ap (λ (v : LogView _). v.notes.made) c.self.view_is)
    ∙ ap (λ (l : List Made). i.lines.told ++ l) (c.self.invariant.told (sym c.is_lost.ensures.value ∙ unlost c.is_lost.result whole))
    ∙ append-nil i.lines.told ∙ ap (λ (v : LogView _). v.lines.told) c.self.view_is
