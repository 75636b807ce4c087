use Rattle.wopi_program.proofs.EndsLemmas.{at_serve}
use Rattle.wopi_program.proofs.laws.exchanges_with_a_serve_are_safe.Goals as goal

pub returns : goal.returns
returns g c m keys base origin ask ends journal old new desktop client ending spoken heard served hears crosses =
    at_serve c.both_ends_are_safe.ensures.host journal served.desk.opened ask.first served.journal_is.opened_is served.journal_is.first_is served.journal_is.legal
    desktop client ending spoken heard hears crosses
