use Rattle.std.proofs.Common.{◌∙◌, sym, ap, subst, Option, List, IsSomeAnd}
use mathlib.Core.List.{IsPrefix}
use Rattle.host_core.specs.Caller.{answer_of}
use Rattle.host_core.specs.Entries.{Made}
use Rattle.host_table.specs.Passes.{Place}
use Rattle.host_table.specs.Calls.{AreSeenAt, Calls, Looks}
use Rattle.host_table.proofs.Turning.{grown, given_back, seen_call, noted_given, made_call, refused_call, err_map}
use Rattle.host_core.proofs.Results.{ifok_map}
use Rattle.host_table.proofs.host.turn.Goals as goal

pub give_back-requires-clause-turn : goal.give_back-requires-clause-turn
give_back-requires-clause-turn g c =
    let P : Option (List Made) → Type 0 = λ o. IsSomeAnd o (λ taken. IsPrefix taken c.call_at-answer.new.self.made) in
    subst P (sym (ap (λ (p : Place g.row.F.Denot). p.taken) c.take-held.ensures.seat)) (grown _ _ _ _ _ _ (answer_of c.call_at-answer.result c.call_at-answer.new.call c.call_at-answer.new.carried) c.call_at-answer.ensures.made c.call_at-answer.ensures.refused)

pub returns-clause-seen : goal.returns-clause-seen
returns-clause-seen g c =
    let v = c.args.seat.now in let w = c.give_back.new.seat in let old = c.take-held.result in let new = c.call_at-answer.new.self in
    let after = given_back v c.take-held.new.seat w old new c.take-held.ensures.seat c.give_back.ensures in
    seen_call v w old new c.take-held.ensures.base c.call_at-answer.ensures.base after c.call_at-answer.ensures.seen

pub returns-clause-made : goal.returns-clause-made
returns-clause-made g c =
    let v = c.args.seat.now in let w = c.give_back.new.seat in let old = c.take-held.result in let new = c.call_at-answer.new.self in
    let after = given_back v c.take-held.new.seat w old new c.take-held.ensures.seat c.give_back.ensures in
    ifok_map (answer_of c.call_at-answer.result c.call_at-answer.new.call c.call_at-answer.new.carried) _ (λ receipt. Calls v c.args.call.now c.args.number c.args.last.now c.args.moment receipt w)
    (λ receipt adds. made_call v w old new c.args.call.now c.args.number c.args.last.now c.args.moment receipt c.requires.free c.take-held.ensures.base c.take-held.ensures.prefix after adds) c.call_at-answer.ensures.made

pub returns-clause-refused : goal.returns-clause-refused
returns-clause-refused g c =
    let v = c.args.seat.now in let w = c.give_back.new.seat in let old = c.take-held.result in let new = c.call_at-answer.new.self in
    let after = given_back v c.take-held.new.seat w old new c.take-held.ensures.seat c.give_back.ensures in
    err_map (answer_of c.call_at-answer.result c.call_at-answer.new.call c.call_at-answer.new.carried) _ (λ refusal. Looks v c.args.call.now c.args.last.now c.args.moment refusal w)
    (λ refusal declines. refused_call v w old new c.args.call.now c.args.last.now c.args.moment refusal c.requires.free c.take-held.ensures.base c.take-held.ensures.prefix after declines) c.call_at-answer.ensures.refused

pub returns-clause-noted : goal.returns-clause-noted
returns-clause-noted g c =
    let v = c.args.seat.now in let w = c.give_back.new.seat in let old = c.take-held.result in let new = c.call_at-answer.new.self in
    let after = given_back v c.take-held.new.seat w old new c.take-held.ensures.seat c.give_back.ensures in
    let notes = g.F.Store.notes in
    subst (λ (s : g.row.F.Denot). AreSeenAt (notes s) w) (sym (c.of-store.ensures ∙ c.store.ensures.same))
    (noted_given v w old new (notes new.folder) c.take-held.ensures.base c.call_at-answer.ensures.base after c.store.ensures.begin c.store.ensures.made)
