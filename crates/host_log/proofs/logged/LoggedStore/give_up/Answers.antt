use Rattle.host_log.proofs.Keeping.{given_up_logged}
use Rattle.host_log.proofs.logged.LoggedStore.give_up.Goals as goal

pub invariant_of-self : goal.invariant_of-self
invariant_of-self g c =
    given_up_logged c.self.inside c.give_back.new.lines c.self.invariant c.give_back.ensures.told c.give_back.ensures.goes_on c.give_back.ensures.free c.give_back.ensures.still
