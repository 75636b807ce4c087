-- A line, as a watcher sees it.
use Rattle.std.proofs.Common.{◌≡◌, ℕ, ◌+◌, Bool, List, [], ◌∷◌, ◌++◌, length, subst, sym, ap, ◌∙◌, arith}
use Rattle.journal_segments.specs.declared.rows.Head.{Head}
use Rattle.journal_segments.specs.declared.rows.Row.{Row}
use Rattle.journal_segments.specs.declared.state.State.{State}
use Rattle.journal_segments.specs.Rows.{IsForm, MayCome, start, state_after, step}
use Rattle.journal_segments.specs.Seen.{IsNext, Sees, is_off}

pub sees_one : {W : Type 0} (has_seen : W → Head → List Row → Type 0) (old new : W) (state next : State) (one : Row) (number : ℕ) (back : Bool) → IsForm one → MayCome state one → next ≡ step state one
    → back ≡ is_off one → ((head : Head) (rows : List Row) (other : Row) → IsNext head rows other (number + 1) back next → has_seen old head rows → has_seen new head (rows ++ other ∷ []))
    → Sees has_seen old new state number (one ∷ [])
sees_one has_seen old new state next one number back form comes is off sees head before at counted seen =
    sees head before one
    (record {
      form_is = form;
      comes = subst (λ (s : State). MayCome s one) at comes;
      number_is = omega (arith, counted);
      back_is = off;
      state_is = is ∙ ap (λ (s : State). step s one) at;
    })
    seen
