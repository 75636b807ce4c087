mod CellLemmas
mod RowLemmas
mod ReadLemmas
mod UndoLemmas
