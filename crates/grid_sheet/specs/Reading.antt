-- Why a text is no grid. (Own.)
use Rattle.std.specs.Prelude.{⊤}
use Rattle.grid_sheet.specs.declared.fault.GridFault.{GridFault}
use Rattle.grid_sheet.specs.declared.fault.GridFault.TheVariants as fault
use Rattle.grid_sheet.specs.Rows.{IsGrid, Rows}

-- a text with these rows may be refused with this fault: too many exactly where a limit is passed
abbrev pub IsUnreadable : Rows → GridFault → Type 0
IsUnreadable rows fault.OutOfGrid = ⊥
IsUnreadable rows fault.TooMany = ¬ IsGrid rows
IsUnreadable rows fault.Memory = ⊤
