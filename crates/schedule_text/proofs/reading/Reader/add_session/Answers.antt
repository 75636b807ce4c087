use Rattle.std.proofs.Common.{◌≡◌, ◌<◌, [], List, length, refl, sym, ap, arith, rules}
use Rattle.schedule_text.specs.declared.schedule.SessionLine.{SessionLine}
use Rattle.schedule_text.specs.Schedules.{Lines}
use Rattle.schedule_text.specs.Readings.{HasNonce}
use Rattle.schedule_text.proofs.Growing.{no_items}
use Rattle.schedule_text.proofs.Latest.{latest_none}
use Rattle.schedule_text.proofs.reading.Reader.add_session.Goals as goal

pub returns-clause-good : goal.returns-clause-good
returns-clause-good c = λ _.
    let reader = c.args.self.now in
    let few : length reader.events.items ≡ 0 = search rules in
    let none : [] ≡ reader.events.items = no_items reader.events.items (omega (arith, few)) in
    let room : length reader.sessions.items < 64 = search rules in
    let new : HasNonce reader.sessions.items c.args.session.nonce → ⊥ = search rules in
    let put : List SessionLine → Lines = λ l. record { files = reader.files.items; sessions = l; events = reader.events.items } in
    record {
      fits = (sym none, room, new);
      lines = ap put c.in_ok-push.ensures.items;
      kept = record {
        names_are = c.requires.kept.names_are;
        latest_is = latest_none reader.sessions.items c.push.new.self.items reader.events.items reader.latest (sym none) c.requires.kept.latest_is;
      };
      rows = refl;
    }
