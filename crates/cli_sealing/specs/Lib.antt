pub mod Draws
pub mod Held
pub mod Sealing
pub mod Contents
pub use Rattle.cli_writing.specs.DocWrite
pub use Rattle.kdbx_open.specs as KdbxOpen
pub use Rattle.kdbx_open.specs.KdbxPayload
pub use Rattle.kdbx_seal.specs as KdbxSeal
pub use Rattle.kdbx_seal.specs.KdbxWriting
