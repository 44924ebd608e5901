pub mod Codes
pub mod Databases
pub mod RowPositions
