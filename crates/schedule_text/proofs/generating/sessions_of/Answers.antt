use Rattle.std.proofs.Common.{◌≡◌, ◌+◌, ◌-◌, ◌++◌, ◌∷◌, [], sym, ap, ◌∙◌, subst, decimal, arith}
use Rattle.schedule_text.specs.declared.schedule.SessionLine.{SessionLine}
use Rattle.schedule_text.specs.Generator.{sessions_from, a_csv}
use Rattle.schedule_text.proofs.Generated.{makes_one}
use Rattle.schedule_text.proofs.generating.sessions_of.Goals as goal

pub sessions-preserved : goal.sessions-preserved
sessions-preserved c =
    let l = c.sessions in
    let test = c.sessions-test.true in
    let file = c.in_ok-file.file in
    let nonce = c.in-Some.nonce in
    let one_is : record { file = file; nonce = nonce; expires = 9000000000; issued = 0 } ≡ record { file = a_csv; nonce = 110 ∷ decimal l.number; expires = 9000000000; issued = 0 } =
    λ i. record { file = c.in_ok-file.ensures.name i; nonce = c.in-Some.ensures i; expires = 9000000000; issued = 0 } in
    let items = c.in_ok-push.ensures.items ∙ ap (λ (s : SessionLine). l.sessions.items ++ s ∷ []) one_is in
    record {
      made = subst (λ e. e ++ sessions_from (65 - (l.number + 1)) (l.number + 1) ≡ sessions_from 64 1) (sym items)
          (makes_one l.sessions.items (sessions_from 64 1) (65 - l.number) (65 - (l.number + 1)) l.number (omega (arith, test)) l.invariant.made);
      within = (omega arith, omega (arith, test));
    }
