pub mod HeldFiles
pub mod NoDocuments
pub mod Openable
pub mod Phases
pub mod Refusals
pub mod SomeOpened
pub mod Sources
pub use Rattle.cli_files.proofs as CliFiles
