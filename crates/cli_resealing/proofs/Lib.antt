mod Costs
mod EditStops
pub mod Helds
mod Named
mod Phases
pub mod Sealed
mod Somes
pub use Rattle.cli_databases.proofs as CliDatabases
pub use Rattle.cli_databases.proofs.CliFiles
pub use Rattle.cli_importing.proofs as CliImporting
