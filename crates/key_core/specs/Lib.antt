pub mod Kdf
pub mod KeyDocument
pub mod KeyFile
pub mod KeyTexts
pub mod Keys
pub mod Reading
pub use Rattle.argon_core.specs as ArgonCore
