pub mod Reading
pub mod Attaching
pub mod Opening
pub mod SeenAlone
pub use Rattle.cli_resealing.specs.CliDatabases
