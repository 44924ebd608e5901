pub mod ReadTasks
pub mod Opened
pub use Rattle.cli_resealing.proofs.CliDatabases
