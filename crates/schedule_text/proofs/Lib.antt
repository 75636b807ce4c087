pub mod Generated
mod Endings
mod WordValues
mod RowForms
pub mod Growing
mod SameRows
mod LastRow
mod ReadSteps
mod FittingLines
mod OneReading
mod PieceLemmas
mod InputLemmas
mod OneSchedule
mod SessionRows
mod Latest
