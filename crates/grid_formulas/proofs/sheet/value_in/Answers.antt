use Rattle.std.proofs.Common.{◌∙◌}
use Rattle.std.specs.BTreeMap.{get}
use Rattle.std.specs.Ordering.{nat_cmp}
use Rattle.grid_formulas.specs.Places.{text_at}
use Rattle.grid_formulas.specs.Sheets.{kept_values, stored}
use Rattle.grid_formulas.proofs.Looks.{within_grid}
use Rattle.grid_formulas.proofs.Valued.{all_values}
use Rattle.grid_formulas.proofs.sheet.value_in.Goals as goal

pub returns : goal.returns
returns c =
    let rows = c.args.grid.now in
    c.value_now.ensures
    ∙ all_values (text_at rows) (stored (text_at rows) (kept_values (get nat_cmp c.args.nodes.now))) (within_grid rows c.requires.grid) c.requires.settled c.requires.stuck c.args.place
