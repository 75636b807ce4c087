-- A schedule from two numbers. (Own.)
use Rattle.std.specs.Prelude.{ℕ, zero, suc, ◌+◌, ◌*◌, ◌^◌, ◌/◌, ◌%◌, List, [], ◌∷◌, codes, decimal, ◌==◌, if◌then◌else◌}
use Rattle.schedule_text.specs.declared.schedule.SessionLine.{SessionLine}
use Rattle.schedule_text.specs.declared.schedule.Reference.TheVariants.{Last}
use Rattle.schedule_text.specs.declared.schedule.Wish.TheVariants.{Start, Save}
use Rattle.schedule_text.specs.declared.schedule.Wish.TheVariants as wish
use Rattle.schedule_text.specs.declared.schedule.EventLine.{EventLine}
use Rattle.schedule_text.specs.declared.schedule.EventLine.TheVariants as line
use Rattle.schedule_text.specs.declared.drawing.Drawn.{Drawn}
use Rattle.schedule_text.specs.Schedules.{Lines}

-- the number that comes after x
abbrev pub next : ℕ → ℕ
next x = (x * 6364136223846793005 + 1442695040888963407) % 2 ^ 64

-- what is drawn of it, below n
abbrev pub drawn : ℕ → ℕ → ℕ
drawn x n = (x / 2 ^ 33) % n

-- the first of a pair of sessions, by how many events there were
abbrev pub pair_at : ℕ → ℕ → ℕ
pair_at i count = 2 * (i / (count / 32 + 1))

-- an event by its draw below 8; x is the number that was drawn last
abbrev pub event_drawn : ℕ → ℕ → ℕ → ℕ → ℕ → Drawn
event_drawn i count x moment choice =
    let a = next x in
    let b = next a in
    let s = pair_at i count + drawn a 2 in
    if choice == 0 then record { x = a; moment = moment; event = line.Asks s Start }
    else if choice == 1 then record { x = b; moment = moment; event = line.Asks s (Save (drawn b 256 ∷ [])) }
    else if choice == 2 then record { x = a; moment = moment; event = line.Asks s wish.Refresh }
    else if choice == 5 then record { x = x; moment = moment; event = line.Answer (Last 1) }
    else if choice == 6 then record { x = a; moment = moment; event = line.Lose s }
    else if choice == 7 then record { x = a; moment = moment + drawn a 400000; event = line.Ticks (moment + drawn a 400000) }
    else record { x = b; moment = moment + drawn b 60000; event = line.Deliver (Last (drawn a 3 + 1)) (moment + drawn b 60000) }

-- so many events more, from event i on
abbrev pub events_drawn : ℕ → ℕ → ℕ → ℕ → ℕ → List EventLine
events_drawn zero i count x moment = []
events_drawn (suc left) i count x moment =
    let one = event_drawn i count (next x) moment (drawn (next x) 8) in
    one.event ∷ events_drawn left (i + 1) count one.x one.moment

abbrev pub a_csv : List ℕ
a_csv = codes "a.csv"

unfoldable pub sessions_from : ℕ → ℕ → List SessionLine
sessions_from zero number = []
sessions_from (suc left) number =
    record { file = a_csv; nonce = 110 ∷ decimal number; expires = 9000000000; issued = 0 } ∷ sessions_from left (number + 1)

abbrev pub generated : ℕ → ℕ → Lines
generated seed count =
    record {
      files = record { name = a_csv; contents = 49 ∷ 44 ∷ 50 ∷ 10 ∷ [] } ∷ [];
      sessions = sessions_from 64 1;
      events = events_drawn count 0 count seed 0;
    }
