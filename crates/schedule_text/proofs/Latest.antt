-- What a restart has to be later than.
use Rattle.std.proofs.Common.{◌≡◌, ◌↔◌, ℕ, ◌<◌, max, List, [], ◌∷◌, ◌++◌, sym, subst, arith}
use Rattle.std.specs.List.{AllByRecursion}
use Rattle.schedule_text.specs.declared.schedule.SessionLine.{SessionLine}
use Rattle.schedule_text.specs.declared.schedule.EventLine.{EventLine}
use Rattle.schedule_text.specs.Schedules.{IsBefore}
use Rattle.schedule_text.specs.Readings.{HasLatest}
use Rattle.schedule_text.proofs.Growing.{all_front, all_more}

-- with no event before it the sessions don't matter
none_before : (sessions : List SessionLine) (events : List EventLine) (moment : ℕ) → events ≡ [] → AllByRecursion (IsBefore sessions moment) events
none_before sessions events moment none = subst (λ (l : List EventLine). AllByRecursion (IsBefore sessions moment) l) (sym none) tt

pub latest_none : (sessions other : List SessionLine) (events : List EventLine) (latest : ℕ) → events ≡ [] → HasLatest sessions events latest
    → HasLatest other events latest
latest_none sessions other events latest none old moment = (
  λ later. record { opened = ((old moment).0 later).opened; earlier = none_before other events moment none },
  λ restart. (old moment).1 (record { opened = restart.opened; earlier = none_before sessions events moment none }),
)

-- behind one event more it has to be later than that too
pub latest_more : (sessions : List SessionLine) (events : List EventLine) (event : EventLine) (latest at : ℕ) → HasLatest sessions events latest
    → ((later : ℕ) → 0 < later → (at < later) ↔ IsBefore sessions later event) → HasLatest sessions (events ++ event ∷ []) (max latest at)
latest_more sessions events event latest at old by moment = (
  λ later.
      let before = (old moment).0 (omega (arith, later)) in
      record { opened = before.opened; earlier = all_more (IsBefore sessions moment) events event before.earlier ((by moment before.opened).0 (omega (arith, later))) },
  λ restart.
      let parts = all_front (IsBefore sessions moment) events event restart.earlier in
      let one = (old moment).1 (record { opened = restart.opened; earlier = parts.0 }) in
      let two = (by moment restart.opened).1 parts.1 in
      omega (arith, one, two),
)
