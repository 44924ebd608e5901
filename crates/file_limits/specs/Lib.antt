pub mod Example
pub mod Limits
pub use Rattle.cli_sealing.specs as CliSealing
pub use Rattle.cli_sealing.specs.KdbxOpen
pub use Rattle.cli_sealing.specs.KdbxSeal
pub use Rattle.cli_sealing.specs.KdbxWriting
