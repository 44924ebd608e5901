pub mod Groups
pub mod ListedLines
mod Examples
pub use Rattle.cli_writing.proofs as CliWriting
