pub mod Fields
pub mod Settings
pub mod Words
pub use Rattle.cli_needs.specs as CliNeeds
