-- A schedule that is drawn from two numbers is a schedule.
use Rattle.std.specs.Prelude.{⊤}
use Rattle.std.proofs.Common.{◌≡◌, ◌==◌, ℕ, zero, suc, ◌+◌, ◌*◌, ◌/◌, ◌^◌, ◌<◌, ◌≤◌, Bool, true, cond, ◌&&◌, List, [], ◌∷◌, ◌++◌, length, map, decimal, nat_lt, nat_le, refl, sym, ap, ◌∙◌, subst, arith}
use Rattle.std.proofs.lemmas.Bool.{cond_both, and_parts}
use Rattle.std.proofs.lemmas.Bool.Decides.{nat_tests}
use Rattle.std.proofs.lemmas.List.{append_assoc}
use Rattle.std.specs.List.{AllByRecursion, list_all}
use Rattle.std.specs.Char.{is_ascii_alphanumeric}
use Rattle.std.specs.Fmt.{digits}
use Rattle.outside.specs.Folder.{all_differ}
use Rattle.wopi_text.specs.FileName.{IsFileName}
use Rattle.save_session.specs.Nonce.{IsNonce}
use Rattle.wopi_model.specs.Moment.{IsMoment}
use Rattle.schedule_text.specs.declared.drawing.Drawn.{Drawn}
use Rattle.schedule_text.specs.declared.schedule.SessionLine.{SessionLine}
use Rattle.schedule_text.specs.declared.schedule.EventLine.{EventLine}
use Rattle.schedule_text.specs.declared.schedule.EventLine.TheVariants as line
use Rattle.schedule_text.specs.declared.schedule.Reference.TheVariants.{Last}
use Rattle.schedule_text.specs.declared.schedule.Wish.TheVariants as wish
use Rattle.schedule_text.specs.Schedules.{IsSchedule, IsEvent}
use Rattle.schedule_text.specs.Generator.{next, drawn, pair_at, event_drawn, events_drawn, sessions_from, generated, a_csv}

-- one more event is drawn
pub draws_one : (done whole : List EventLine) (left less i count x moment : ℕ) (one : Drawn) → left ≡ suc less → one ≡ event_drawn i count (next x) moment (drawn (next x) 8)
    → done ++ events_drawn left i count x moment ≡ whole → (done ++ one.event ∷ []) ++ events_drawn less (i + 1) count one.x one.moment ≡ whole
draws_one done whole left less i count x moment one more is h =
    append_assoc done (one.event ∷ []) (events_drawn less (i + 1) count one.x one.moment)
    ∙ ap (λ (d : Drawn). done ++ (d.event ∷ events_drawn less (i + 1) count d.x d.moment)) is
    ∙ ap (λ (n : ℕ). done ++ events_drawn n i count x moment) (sym more) ∙ h

pub makes_one : (done whole : List SessionLine) (left less number : ℕ) → left ≡ suc less → done ++ sessions_from left number ≡ whole
    → (done ++ record { file = a_csv; nonce = 110 ∷ decimal number; expires = 9000000000; issued = 0 } ∷ []) ++ sessions_from less (number + 1) ≡ whole
unfolding sessions_from
makes_one done whole left less number more h =
    append_assoc done (record { file = a_csv; nonce = 110 ∷ decimal number; expires = 9000000000; issued = 0 } ∷ []) (sessions_from less (number + 1))
    ∙ ap (λ (n : ℕ). done ++ sessions_from n number) (sym more) ∙ h

-- no restart is drawn
abbrev IsNoRestart : EventLine → Type 0
IsNoRestart (line.Restarts moment) = ⊥
IsNoRestart event = ⊤

-- an event that is drawn can come next
pub record CanCome (sessions : List SessionLine) (moment : ℕ) (one : Drawn) : Type 0 where
  pub event : IsEvent sessions one.event
  pub plain : IsNoRestart one.event
  pub soon : one.moment ≤ moment + 400000

below : (x n : ℕ) → 0 < n → drawn x n < n
below x n h = Rattle.std.proofs.Math.Nat.mod-lt (x / 2 ^ 33) h

-- the events that can be drawn; x is the number that was drawn last
abbrev starts : ℕ → ℕ → ℕ → ℕ → Drawn
starts i count x moment = record { x = next x; moment = moment; event = line.Asks (pair_at i count + drawn (next x) 2) wish.Start }

abbrev saves : ℕ → ℕ → ℕ → ℕ → Drawn
saves i count x moment =
    record { x = next (next x); moment = moment; event = line.Asks (pair_at i count + drawn (next x) 2) (wish.Save (drawn (next (next x)) 256 ∷ [])) }

abbrev refreshes : ℕ → ℕ → ℕ → ℕ → Drawn
refreshes i count x moment = record { x = next x; moment = moment; event = line.Asks (pair_at i count + drawn (next x) 2) wish.Refresh }

abbrev answers : ℕ → ℕ → Drawn
answers x moment = record { x = x; moment = moment; event = line.Answer (Last 1) }

abbrev loses : ℕ → ℕ → ℕ → ℕ → Drawn
loses i count x moment = record { x = next x; moment = moment; event = line.Lose (pair_at i count + drawn (next x) 2) }

abbrev ticks : ℕ → ℕ → Drawn
ticks x moment = record { x = next x; moment = moment + drawn (next x) 400000; event = line.Ticks (moment + drawn (next x) 400000) }

abbrev late : ℕ → ℕ → Drawn
late x moment =
    let b = next (next x) in
    record { x = b; moment = moment + drawn b 60000; event = line.Deliver (Last (drawn (next x) 3 + 1)) (moment + drawn b 60000) }

-- what holds of each of them holds of the one that is drawn
each_drawn : (P : Drawn → Type 0) (i count x moment choice : ℕ) → P (starts i count x moment) → P (saves i count x moment)
    → P (refreshes i count x moment) → P (answers x moment) → P (loses i count x moment) → P (ticks x moment) → P (late x moment)
    → P (event_drawn i count x moment choice)
each_drawn P i count x moment choice start save refresh answer lose tick deliver =
    let r7 = cond (choice == 7) (ticks x moment) (late x moment) in
    let r6 = cond (choice == 6) (loses i count x moment) r7 in
    let r5 = cond (choice == 5) (answers x moment) r6 in
    let r2 = cond (choice == 2) (refreshes i count x moment) r5 in
    let r1 = cond (choice == 1) (saves i count x moment) r2 in
    cond_both (choice == 0) (starts i count x moment) r1 P (λ e. start)
    (λ e. cond_both (choice == 1) (saves i count x moment) r2 P (λ e. save)
    (λ e. cond_both (choice == 2) (refreshes i count x moment) r5 P (λ e. refresh)
    (λ e. cond_both (choice == 5) (answers x moment) r6 P (λ e. answer)
    (λ e. cond_both (choice == 6) (loses i count x moment) r7 P (λ e. lose)
    (λ e. cond_both (choice == 7) (ticks x moment) (late x moment) P (λ e. tick) (λ e. deliver))))))

pub can_come : (sessions : List SessionLine) (i count x moment choice : ℕ) → length sessions ≡ 64 → pair_at i count ≤ 62 → moment ≤ 4000000000 → CanCome sessions moment (event_drawn i count x moment choice)
can_come sessions i count x moment choice many pair soon =
    let two = below (next x) 2 (omega arith) in
    let within : pair_at i count + drawn (next x) 2 < length sessions = omega (arith, two, pair, many) in
    let d7 = below (next x) 400000 (omega arith) in
    let d6 = below (next (next x)) 60000 (omega arith) in
    each_drawn (CanCome sessions moment) i count x moment choice
    (record { event = (within, tt); plain = tt; soon = omega arith })
    (record { event = (within, omega arith); plain = tt; soon = omega arith })
    (record { event = (within, tt); plain = tt; soon = omega arith })
    (record { event = tt; plain = tt; soon = omega arith })
    (record { event = within; plain = tt; soon = omega arith })
    (record { event = omega (arith, d7, soon); plain = tt; soon = omega (arith, d7) })
    (record { event = omega (arith, d6, soon); plain = tt; soon = omega (arith, d6) })

pub pair_small : (i count : ℕ) → i < count → pair_at i count ≤ 62
pair_small i count h =
    let w = count / 32 + 1 in
    let under : count < 32 * (count / 32 + 1) = Rattle.std.proofs.Math.Nat.lt-mul-div-succ count (omega arith) in
    let part : i / w < 32 = (Rattle.std.proofs.Math.Nat.div-lt_iff_lt-mul {k = w} {x = i} {y = 32} (omega arith)).1 (omega (arith, under, h)) in
    omega (arith, part)

events_can_come : (sessions : List SessionLine) (left i count x moment : ℕ) → length sessions ≡ 64 → i + left ≤ count → count ≤ 10000 → moment ≤ 400000 * i
    → AllByRecursion (λ event. IsEvent sessions event × IsNoRestart event) (events_drawn left i count x moment)
events_can_come sessions zero i count x moment many early few soon = tt
events_can_come sessions (suc left) i count x moment many early few soon =
    let one = event_drawn i count (next x) moment (drawn (next x) 8) in
    let come = can_come sessions i count (next x) moment (drawn (next x) 8) many (pair_small i count (omega (arith, early))) (omega (arith, early, few, soon)) in
    let later = come.soon in
    ((come.event, come.plain), events_can_come sessions left (i + 1) count one.x one.moment many (omega (arith, early)) few (omega (arith, later, soon)))

all_firsts : {T : Type 0} (P Q : T → Type 0) (xs : List T) → AllByRecursion (λ x. P x × Q x) xs → AllByRecursion P xs
all_firsts P Q [] h = tt
all_firsts P Q (x ∷ xs) h = (h.0.0, all_firsts P Q xs h.1)

none_within : (P : EventLine → Type 0) (front behind : List EventLine) (moment : ℕ)
    → AllByRecursion (λ event. P event × IsNoRestart event) (front ++ line.Restarts moment ∷ behind) → ⊥
none_within P [] behind moment h = h.0.1
none_within P (event ∷ front) behind moment h = none_within P front behind moment h.1

all_by_test : {T : Type 0} (test : T → Bool) (P : T → Type 0) (xs : List T) → ((x : T) → test x ≡ true → P x) → list_all test xs ≡ true → AllByRecursion P xs
all_by_test test P [] f h = tt
all_by_test test P (x ∷ xs) f h = let parts = and_parts (test x) (list_all test xs) h in (f x parts.0, all_by_test test P xs f parts.1)

abbrev is_nonce : List ℕ → Bool
is_nonce bytes = nat_lt 0 (length bytes) && (nat_le (length bytes) 32 && list_all is_ascii_alphanumeric bytes)

nonce_form : (bytes : List ℕ) → is_nonce bytes ≡ true → IsNonce bytes
nonce_form bytes h =
    let one = and_parts (nat_lt 0 (length bytes)) (nat_le (length bytes) 32 && list_all is_ascii_alphanumeric bytes) h in
    let two = and_parts (nat_le (length bytes) 32) (list_all is_ascii_alphanumeric bytes) one.1 in
    let some = one.0 in
    let few = two.0 in
    record { not_empty = grind (arith, nat_tests); short = grind (arith, nat_tests); letters = two.1 }

sixty_four : length (sessions_from 64 1) ≡ 64
unfolding sessions_from
sixty_four = refl

all_nonces : list_all (λ (s : SessionLine). is_nonce s.nonce) (sessions_from 64 1) ≡ true
unfolding sessions_from digits
all_nonces = refl

nonces_apart : all_differ (map (λ (s : SessionLine). s.nonce) (sessions_from 64 1)) ≡ true
unfolding sessions_from digits
nonces_apart = refl

tokens_live : (left number : ℕ) → AllByRecursion (λ (s : SessionLine). IsMoment s.expires × IsMoment s.issued) (sessions_from left number)
unfolding sessions_from
tokens_live zero number = tt
tokens_live (suc left) number = ((omega arith, omega arith), tokens_live left (number + 1))

drawn_length : (left i count x moment : ℕ) → length (events_drawn left i count x moment) ≡ left
drawn_length zero i count x moment = refl
drawn_length (suc left) i count x moment =
    let one = event_drawn i count (next x) moment (drawn (next x) 8) in ap suc (drawn_length left (i + 1) count one.x one.moment)

pub generated_form : (seed count : ℕ) → count ≤ 10000 → IsFileName a_csv → IsSchedule (generated seed count)
generated_form seed count few name =
    let many = sixty_four in
    let all = drawn_length count 0 count seed 0 in
    let come = events_can_come (sessions_from 64 1) count 0 count seed 0 sixty_four (omega arith) few (omega arith) in
    record {
      files_differ = refl;
      nonces_differ = nonces_apart;
      names = (name, tt);
      contents = (omega arith, tt);
      nonces = all_by_test (λ (s : SessionLine). is_nonce s.nonce) (λ (s : SessionLine). IsNonce s.nonce) (sessions_from 64 1) (λ s h. nonce_form s.nonce h) all_nonces;
      few_sessions = omega (arith, many);
      few_lines = omega (arith, many, all, few);
      tokens = tokens_live 64 1;
      each = all_firsts (IsEvent (sessions_from 64 1)) IsNoRestart (events_drawn count 0 count seed 0) come;
      restarts = λ front behind moment is.
          absurd (none_within (IsEvent (sessions_from 64 1)) front behind moment (subst (AllByRecursion (λ event. IsEvent (sessions_from 64 1) event × IsNoRestart event)) is come));
    }

-- and its moment is not far behind
pub soon_after : (i count x moment choice : ℕ) (one : Drawn) → one ≡ event_drawn i count x moment choice → one.moment ≤ moment + 400000
soon_after i count x moment choice one e = subst (λ (d : Drawn). d.moment ≤ moment + 400000) (sym e) (near i count x moment choice)
  where
    near : (i count x moment choice : ℕ) → (event_drawn i count x moment choice).moment ≤ moment + 400000
    near i count x moment choice =
        let d7 = below (next x) 400000 (omega arith) in
        let d6 = below (next (next x)) 60000 (omega arith) in
        each_drawn (λ (d : Drawn). d.moment ≤ moment + 400000) i count x moment choice
        (omega arith) (omega arith) (omega arith) (omega arith) (omega arith) (omega (arith, d7)) (omega (arith, d6))
