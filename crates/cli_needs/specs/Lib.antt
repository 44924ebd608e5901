pub mod Needs
pub mod SeenNeeds
pub use Rattle.kdbx_frame.specs as KdbxFrame
pub use Rattle.kdbx_frame.specs.KdbxParts
pub use Rattle.kdbx_frame.specs.KeyCore
