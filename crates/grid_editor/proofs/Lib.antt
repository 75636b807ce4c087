mod ScriptLemmas
mod WordLemmas
mod SheetLemmas
pub mod TurnLemmas
