pub mod Endings
pub mod SeenRequest
pub use Rattle.cli_commands.specs.CliChanges
pub use Rattle.cli_commands.specs as CliCommands
pub use Rattle.cli_files.specs as CliFiles
pub use Rattle.cli_commands.specs.CliMerging
pub use Rattle.cli_commands.specs.CliPrinting
pub use Rattle.cli_sealing.specs as CliSealing
pub use Rattle.cli_sealing.specs.KdbxSeal
