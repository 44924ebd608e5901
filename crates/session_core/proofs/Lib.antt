pub mod CarriedLines
pub mod Examples
pub mod FileNames
pub mod Reopened
pub use Rattle.call_run.proofs.CliCommands
