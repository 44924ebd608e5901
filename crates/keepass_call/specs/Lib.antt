pub mod Call
pub mod Held
pub mod Merges
pub mod Outcome
pub mod SessionCalls
pub mod Telling
pub use Rattle.session_run.specs.CallRun
pub use Rattle.session_run.specs.CliChanges
pub use Rattle.session_run.specs.CliCommands
pub use Rattle.call_input.specs.CliDatabases
pub use Rattle.cli_files.specs as CliFiles
pub use Rattle.session_run.specs.CliSealing
pub use Rattle.session_opening.specs.KdbxOpen
pub use Rattle.session_run.specs.KdbxSeal
