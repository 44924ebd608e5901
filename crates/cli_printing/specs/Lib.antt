pub mod Laws
pub mod Listing
pub mod Info
pub mod Exporting
pub use Rattle.cli_writing.specs as CliWriting
