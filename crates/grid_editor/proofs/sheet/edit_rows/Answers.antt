use Rattle.grid_editor.specs.Sheets.{after_edit}
use Rattle.grid_editor.proofs.SheetLemmas.{pushed_can, pushed_edit}
use Rattle.grid_editor.proofs.sheet.edit_rows.Goals as goal

pub returns-in-Ok-clause-can : goal.returns-in-Ok-clause-can
returns-in-Ok-clause-can c =
    pushed_can (after_edit c.args.grid.now c.args.command.now) c.args.grid.now c.edited.new.grid c.in-Ok.undo c.args.steps.now c.push_front-forgotten.new.self
    c.in-Ok.ensures.ok c.in-Ok.ensures.within c.requires.can c.push_front-forgotten.ensures.items

pub returns-in-Ok-clause-ok : goal.returns-in-Ok-clause-ok
returns-in-Ok-clause-ok c =
    pushed_edit (after_edit c.args.grid.now c.args.command.now) c.args.grid.now c.edited.new.grid c.in-Ok.undo c.args.steps.now c.push_front-forgotten.new.self
    c.in-Ok.ensures.ok c.requires.capacity c.push_front-forgotten.ensures.items
