pub mod CsvRows
mod Examples
pub mod GroupRows
pub mod Puts
