use Rattle.std.proofs.Common.{[], refl, sym, ap, subst, not, ◌∙◌, Option, List, IsSomeAnd}
use Rattle.std.proofs.lemmas.List.{append-nil}
use mathlib.Core.List.{IsPrefix}
use Rattle.host_core.specs.Entries.{Made}
use Rattle.host_core.proofs.Results.{ifok_map}
use Rattle.host_table.specs.Passes.{Place}
use Rattle.host_table.proofs.Turning.{given_back, noted_given, seen_call, glanced, shows_seen}
use Rattle.host_table.proofs.host.list_in_turn.Goals as goal

pub give_back-requires-clause-turn : goal.give_back-requires-clause-turn
give_back-requires-clause-turn g c =
    let held = c.take-held.result in
    let P : Option (List Made) → Type 0 = λ o. IsSomeAnd o (λ taken. IsPrefix taken held.made) in
    subst P (sym (ap (λ (p : Place g.row.F.Denot). p.taken) c.take-held.ensures.seat)) ([], append-nil held.made)

pub returns-clause-seen : goal.returns-clause-seen
returns-clause-seen g c =
    let v = c.args.seat.now in let w = c.give_back.new.seat in let held = c.take-held.result in
    let after = given_back v c.take-held.new.seat w held held c.take-held.ensures.seat c.give_back.ensures in
    seen_call v w held held c.take-held.ensures.base refl after c.list-answer.ensures.seen

pub returns-clause-told : goal.returns-clause-told
returns-clause-told g c =
    let v = c.args.seat.now in let w = c.give_back.new.seat in let held = c.take-held.result in
    let after = given_back v c.take-held.new.seat w held held c.take-held.ensures.seat c.give_back.ensures in
    (held.folder, noted_given v w held held (g.F.Store.notes held.folder) c.take-held.ensures.base refl after c.store.ensures.begin c.store.ensures.made, ap not (c.is_lost-told.ensures ∙ ap g.F.Store.lost c.store.ensures.same))

pub returns-clause-glances : goal.returns-clause-glances
returns-clause-glances g c =
    let v = c.args.seat.now in let w = c.give_back.new.seat in let held = c.take-held.result in
    let after = given_back v c.take-held.new.seat w held held c.take-held.ensures.seat c.give_back.ensures in
    glanced v w held held c.requires.free c.take-held.ensures.base c.take-held.ensures.prefix after refl

pub returns-clause-shows : goal.returns-clause-shows
returns-clause-shows g c =
    let v = c.args.seat.now in let w = c.give_back.new.seat in let held = c.take-held.result in
    let after = given_back v c.take-held.new.seat w held held c.take-held.ensures.seat c.give_back.ensures in
    ifok_map c.list-answer.result _ _ (λ listing shows. shows_seen v w held c.args.number listing c.take-held.ensures.base after shows) c.list-answer.ensures.shows
