use Rattle.std.proofs.Common.{sym}
use Rattle.csv.proofs.RecordFacts.{field-get, field-there}
use Rattle.grid_sheet.proofs.cells.cell_at.Goals as goal

pub unreachable-requires : goal.unreachable-requires
unreachable-requires c = field-there _ c.args.place c.requires (sym c.in-None.ensures.value)

pub returns : goal.returns
returns c = sym (field-get _ c.args.place _ (sym c.in-Some.ensures.value))
