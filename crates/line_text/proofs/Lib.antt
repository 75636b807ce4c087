pub mod Endings
pub mod HexWords
pub mod Splits
pub mod WholeInputs
