use Rattle.std.proofs.Common.{◌≡◌, ◌↔◌, ◌<◌, ℕ, [], ◌∷◌, ◌++◌, List, IsTrue, max, refl, sym, ap, subst, rules}
use Rattle.schedule_text.specs.declared.schedule.EventLine.{EventLine}
use Rattle.schedule_text.specs.declared.schedule.SessionLine.{SessionLine}
use Rattle.schedule_text.specs.Schedules.{IsBefore, Lines}
use Rattle.schedule_text.specs.Readings.{HasLatest, Suits}
use Rattle.schedule_text.proofs.Latest.{latest_more}
use Rattle.schedule_text.proofs.reading.Reader.add_event.Goals as goal

pub returns-then-not-suits-clause-bad : goal.returns-then-not-suits-clause-bad
returns-then-not-suits-clause-bad c =
    let reader = c.args.self.now in
    let same = sym c.deref.ensures.value in
    let latest = subst (λ (l : List SessionLine). HasLatest l reader.events.items reader.latest) same c.requires.kept.latest_is in
    λ _. (
      λ suits.
          let stands = subst (λ (l : List SessionLine). Suits l reader.events.items c.args.event) same suits in
          let yes : IsTrue c.suits.result = (c.suits.ensures reader.events.items latest).1 stands in
          absurd (cc (c.if-not-suits.true, yes)),
      refl,
    )

pub returns-clause-good : goal.returns-clause-good
returns-clause-good c = λ _.
    let reader = c.args.self.now in
    let same = sym c.deref.ensures.value in
    let latest = subst (λ (l : List SessionLine). HasLatest l reader.events.items reader.latest) same c.requires.kept.latest_is in
    let yes : IsTrue c.suits.result = search rules in
    let suits : Suits reader.sessions.items reader.events.items c.args.event =
    subst (λ (l : List SessionLine). Suits l reader.events.items c.args.event) c.deref.ensures.value ((c.suits.ensures reader.events.items latest).0 yes) in
    let by : (later : ℕ) → 0 < later → (c.moment_of.result < later) ↔ IsBefore reader.sessions.items later c.args.event =
    subst (λ (l : List SessionLine). (later : ℕ) → 0 < later → (c.moment_of.result < later) ↔ IsBefore l later c.args.event) c.deref-2.ensures.value c.moment_of.ensures in
    let greatest : c.max-self.result ≡ max reader.latest c.moment_of.result = search rules in
    let put : List EventLine → Lines = λ l. record { files = reader.files.items; sessions = reader.sessions.items; events = l } in
    record {
      fits = suits;
      lines = ap put c.in_ok-push.ensures.items;
      kept = record {
        names_are = c.requires.kept.names_are;
        latest_is = subst (λ (l : List EventLine). HasLatest reader.sessions.items l c.max-self.result) (sym c.in_ok-push.ensures.items)
            (subst (λ (n : ℕ). HasLatest reader.sessions.items (reader.events.items ++ c.args.event ∷ []) n) (sym greatest)
            (latest_more reader.sessions.items reader.events.items c.args.event reader.latest c.moment_of.result c.requires.kept.latest_is by));
      };
      rows = refl;
    }
