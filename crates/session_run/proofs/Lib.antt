pub mod DoneLines
pub mod FirstLines
pub mod Runs
pub mod Together
pub use Rattle.session_core.proofs.CliCommands
