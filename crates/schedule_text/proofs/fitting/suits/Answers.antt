use Rattle.std.proofs.Common.{◌↔◌, IsTrue, nat_lt, sym, subst}
use Rattle.std.proofs.lemmas.Bool.{ltb-true, lt-ltb}
use Rattle.schedule_text.specs.declared.schedule.EventLine.{EventLine}
use Rattle.schedule_text.specs.Readings.{Suits}
use Rattle.schedule_text.proofs.fitting.suits.Goals as goal

pub returns-in-Foreign : goal.returns-in-Foreign
returns-in-Foreign c = λ events latest.
    subst (λ (event : EventLine). IsTrue c.is_of_nobody.result ↔ Suits c.args.sessions.now events event) (sym c.in-Foreign.is) (c.is_of_nobody.ensures c.in-Foreign.ask.body)

pub returns-in-Restarts : goal.returns-in-Restarts
returns-in-Restarts c = λ events latest.
    let at = latest c.in-Restarts.moment in
    subst (λ (event : EventLine). IsTrue (nat_lt c.args.latest c.in-Restarts.moment) ↔ Suits c.args.sessions.now events event) (sym c.in-Restarts.is)
    (λ yes. at.0 (ltb-true c.args.latest c.in-Restarts.moment yes), λ restart. lt-ltb c.args.latest c.in-Restarts.moment (at.1 restart))
