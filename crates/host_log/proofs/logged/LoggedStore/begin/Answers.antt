use Rattle.std.proofs.Common.{ap, ◌∙◌}
use Rattle.host_log.specs.Logs.{LogView}
use Rattle.host_log.proofs.Keeping.{begun_logged}
use Rattle.host_log.proofs.logged.LoggedStore.begin.Goals as goal

pub invariant_of-self : goal.invariant_of-self
invariant_of-self g c =
    begun_logged c.self.inside c.of.result c.self.invariant (ap (λ (v : LogView _). v.notes.begun) c.self.view_is ∙ c.requires.begun)
    (ap (λ (v : LogView _). v.lost) c.self.view_is ∙ c.requires.going)
