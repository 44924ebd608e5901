pub mod Cutting
pub mod Lines
pub mod SeenLines
pub use Rattle.cli_needs.specs as CliNeeds
pub use Rattle.cli_needs.specs.KdbxFrame
pub use Rattle.cli_needs.specs.KeyCore
