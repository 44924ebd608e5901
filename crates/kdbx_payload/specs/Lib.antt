pub mod Ciphers
pub mod HeaderMacs
pub mod Parts
pub mod Payloads
pub mod Reading
pub mod Results
pub mod Sealed
pub mod Seen
pub use Rattle.kdbx_frame.specs as KdbxFrame
pub use Rattle.kdbx_inner.specs as KdbxInner
pub use Rattle.kdbx_frame.specs.KdbxParts
pub use Rattle.kdbx_frame.specs.KeyCore
