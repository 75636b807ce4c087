use Rattle.std.proofs.Common.{◌≡◌, ◌<◌, length, sym, subst, rules}
use Rattle.schedule_text.specs.Schedules.{Lines}
use Rattle.schedule_text.specs.Grammar.{IsText}
use Rattle.schedule_text.proofs.PieceLemmas.{come_form, come_ready, finish_bad, finish_empty, finish_ended, finish_form}
use Rattle.schedule_text.proofs.pieces.PieceReader.finish.Goals as goal

pub finish-requires : goal.finish-requires
finish-requires c = come_form c.requires.0 c.args.self c.requires.1

pub returns-then-is_empty : goal.returns-then-is_empty
returns-then-is_empty c =
    let none : length c.args.self.row.items ≡ 0 = search rules in
    λ text come. subst (λ (lines : Lines). IsText text lines) (sym c.finish.ensures) (finish_empty text c.args.self come none)

pub end_row-requires : goal.end_row-requires
end_row-requires c = come_ready c.requires.0 c.args.self c.requires.1

pub finish-requires-in-Ok : goal.finish-requires-in-Ok
finish-requires-in-Ok c =
    let some : 0 < length c.args.self.row.items = search rules in
    finish_form c.requires.0 c.args.self c.end_row.new.self c.requires.1 some c.in-Ok.ensures.ok.0

pub returns-in-Ok : goal.returns-in-Ok
returns-in-Ok c =
    let some : 0 < length c.args.self.row.items = search rules in
    λ text come. subst (λ (lines : Lines). IsText text lines) (sym c.finish-in-Ok.ensures)
    (finish_ended text c.args.self c.end_row.new.self come some c.in-Ok.ensures.ok.0)

pub returns-in-Err : goal.returns-in-Err
returns-in-Err c =
    let some : 0 < length c.args.self.row.items = search rules in
    λ text come. finish_bad text c.args.self c.in-Err.fault come some c.in-Err.ensures.refused
