use Rattle.std.proofs.Common.{◌≡◌, ◌+◌, ◌-◌, ◌++◌, sym, ap, ◌∙◌, subst, arith}
use Rattle.schedule_text.specs.Generator.{next, drawn, event_drawn, events_drawn}
use Rattle.schedule_text.proofs.Generated.{draws_one, soon_after}
use Rattle.schedule_text.proofs.generating.events_of.Goals as goal

pub events-preserved : goal.events-preserved
events-preserved c =
    let l = c.events in
    let count = c.args.count in
    let test = c.events-test.true in
    let one_is = c.in_ok-one.ensures ∙ ap (event_drawn l.i count c.next-chosen.result l.moment) c.drawn.ensures.value
    ∙ ap (λ n. event_drawn l.i count n l.moment (drawn n 8)) c.next-chosen.ensures in
    let soon = l.invariant.soon in
    let later = soon_after l.i count (next l.x) l.moment (drawn (next l.x) 8) c.in_ok-one.one one_is in
    record {
      drawn = subst (λ e. e ++ events_drawn (count - (l.i + 1)) (l.i + 1) count c.in_ok-one.one.x c.in_ok-one.one.moment ≡ events_drawn count 0 count c.args.seed 0) (sym c.in_ok-push.ensures.items)
          (draws_one l.events.items _ (count - l.i) (count - (l.i + 1)) l.i count l.x l.moment c.in_ok-one.one (omega (arith, test)) one_is l.invariant.drawn);
      early = omega (arith, test);
      soon = omega (arith, later, soon);
    }
