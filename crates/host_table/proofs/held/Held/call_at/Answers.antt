use Rattle.std.proofs.Common.{max, Some, sym, ◌∙◌, subst, ap}
use Rattle.std.specs.Prelude.{not}
use Rattle.host_core.specs.declared.caller.CallFault.TheVariants as fault
use Rattle.host_core.specs.Entries.{Made}
use Rattle.host_core.specs.Value.{Book}
use Rattle.host_table.specs.Held.{IsHeld}
use Rattle.host_table.proofs.Holding.{held_push, seen_of, seen_stays, neither, held_adds, held_declines}
use Rattle.host_table.proofs.held.Held.call_at.Goals as goal

pub invariant_of-self : goal.invariant_of-self
invariant_of-self g c =
    let F = g.row.F.Denot in let f = g.F.Store in let old : Book F = c.self.inside.shard in
    let one : Made = record { time = max old.time c.args.moment; step = record { stamp = c.in-Ok.stamp; pass = c.args.pass; moment = c.args.moment; call = c.args.call.now; ruling = c.step_at.new.carried.ruling }; told = not (g.F.Store.lost c.step_at.new.self.folder) } in
    let P : Book F → Type 0 = λ b. IsHeld b (f.files b.start) (f.files b.folder) (f.faults b.start) (f.faults b.folder) (f.notes b.start).log (f.notes b.folder).log in
    subst P (sym c.in-Ok.ensures.entry)
    (held_push old c.step_at.new.self.folder one (f.files old.start) (f.files old.folder) (f.files c.step_at.new.self.folder) (f.faults old.start) (f.faults old.folder) (f.faults c.step_at.new.self.folder) c.args.floor (f.notes old.start).log (f.notes old.folder).log (f.notes c.step_at.new.self.folder).log c.args.call.now
    c.self.invariant (rw c.self.view_is c.requires.only) c.in-Ok.ensures.room c.step_at.ensures.never_falls c.step_at.ensures.log)

pub returns-in-Ok-clause-seen : goal.returns-in-Ok-clause-seen
returns-in-Ok-clause-seen g c = seen_of c.step_at.new.self _ _ _ _ _ _ (invariant_of-self g c) c.step_at.ensures.lawful.alone

pub returns-in-Ok-clause-made : goal.returns-in-Ok-clause-made
returns-in-Ok-clause-made g c =
    rw (← c.self.view_is) (held_adds _ c.self.inside.shard c.step_at.new.self c.args.call.now c.args.pass c.args.floor c.args.moment _ (ap not (sym c.is_lost-told.ensures.lost)) (c.len-place.ensures.lawful.timely c.self.invariant.unticked) c.in-Ok.ensures.entry
    (rw c.self.view_is (c.requires.only ∙ ap Some (sym c.shard-shard.ensures))) c.len-place.ensures.count c.in-Ok.ensures.stamp c.in-Ok.ensures.room c.in-Ok.ensures.back)

pub returns-in-Err-Full-clause-seen : goal.returns-in-Err-Full-clause-seen
returns-in-Err-Full-clause-seen g c = seen_stays c.self.inside.shard c.step_at.new.self _ _ _ _ _ _ c.self.invariant c.in-Err-Full.ensures.err c.step_at.ensures.lawful.alone

pub returns-in-Err-Memory-clause-seen : goal.returns-in-Err-Memory-clause-seen
returns-in-Err-Memory-clause-seen g c = seen_stays c.self.inside.shard c.step_at.new.self _ _ _ _ _ _ c.self.invariant c.in-Err-Memory.ensures.err c.step_at.ensures.lawful.alone

pub returns-in-Err-Full-clause-refused : goal.returns-in-Err-Full-clause-refused
returns-in-Err-Full-clause-refused g c =
    let h = rw c.in-Err-Full.field-0-is at c.in-Err-Full.ensures in
    rw (← c.self.view_is) (held_declines c.self.inside.shard c.step_at.new.self c.args.call.now c.args.floor c.args.moment (fault.Full c.step_at.new.call) (c.len-place.ensures.lawful.timely c.self.invariant.unticked) h.err h.full h.call (λ light going. tt))

pub returns-in-Err-Memory-clause-refused : goal.returns-in-Err-Memory-clause-refused
returns-in-Err-Memory-clause-refused g c =
    let h = rw c.in-Err-Memory.field-0-is at c.in-Err-Memory.ensures in
    rw (← c.self.view_is) (held_declines c.self.inside.shard c.step_at.new.self c.args.call.now c.args.floor c.args.moment (fault.Memory c.step_at.new.call) (c.len-place.ensures.lawful.timely c.self.invariant.unticked) h.err h.full h.call (λ light going. neither (g.F.Store.lost c.self.inside.shard.folder) (h.lost.1) (λ stays. h.light light stays)))

pub returns-in-Err-Lost-clause-seen : goal.returns-in-Err-Lost-clause-seen
returns-in-Err-Lost-clause-seen g c = seen_stays c.self.inside.shard c.step_at.new.self _ _ _ _ _ _ c.self.invariant c.in-Err-Lost.ensures.err c.step_at.ensures.lawful.alone

pub returns-in-Err-Lost-clause-refused : goal.returns-in-Err-Lost-clause-refused
returns-in-Err-Lost-clause-refused g c =
    let h = rw c.in-Err-Lost.field-0-is at c.in-Err-Lost.ensures in
    rw (← c.self.view_is) (held_declines c.self.inside.shard c.step_at.new.self c.args.call.now c.args.floor c.args.moment (fault.Lost c.step_at.new.call) (c.len-place.ensures.lawful.timely c.self.invariant.unticked) h.err h.full h.call (λ light going. absurd (going tt)))
