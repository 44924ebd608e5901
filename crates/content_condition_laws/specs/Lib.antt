pub mod Conditions
pub mod Example
pub use Rattle.cli_printing.specs as CliPrinting
pub use Rattle.merge_examples.specs.RunLaws
