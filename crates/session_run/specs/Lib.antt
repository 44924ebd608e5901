pub mod Lines
pub mod Progress
pub mod Seen
pub use Rattle.session_core.specs.CallRun
pub use Rattle.session_core.specs.CliChanges
pub use Rattle.session_core.specs.CliCommands
pub use Rattle.session_core.specs.CliMerging
pub use Rattle.session_core.specs.CliSealing
pub use Rattle.session_core.specs.KdbxSeal
pub use Rattle.session_core.specs as SessionCore
