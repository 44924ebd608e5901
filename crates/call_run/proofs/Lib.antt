pub mod Carried
pub use Rattle.cli_commands.proofs as CliCommands
