pub mod Commands
pub mod SeenChange
pub use Rattle.cli_changes.specs as CliChanges
pub use Rattle.cli_merging.specs as CliMerging
pub use Rattle.cli_printing.specs as CliPrinting
pub use Rattle.cli_printing.specs.CliWriting
pub use Rattle.cli_merging.specs.DocumentMerge
