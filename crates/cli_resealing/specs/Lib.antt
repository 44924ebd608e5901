pub mod Asked
pub mod Created
pub mod Edited
pub mod Held
pub use Rattle.cli_databases.specs as CliDatabases
pub use Rattle.cli_databases.specs.CliFiles
pub use Rattle.cli_importing.specs as CliImporting
