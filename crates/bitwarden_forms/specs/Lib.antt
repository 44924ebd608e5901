pub mod Json
pub mod Dates
pub mod Kinds
pub mod Refusals
pub mod Exports
pub mod Seen
pub use Rattle.table_reading.specs.ImportTree
