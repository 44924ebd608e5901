pub mod Opening
pub use Rattle.cli_databases.specs.KdbxOpen
