pub mod Databases
pub mod Held
pub mod NoDocument
pub mod SeenOpened
pub mod SomeFiles
pub use Rattle.cli_files.specs as CliFiles
pub use Rattle.kdbx_open.specs as KdbxOpen
