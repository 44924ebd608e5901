pub mod Parts
pub mod Results
pub mod Seen
pub mod Dictionary
pub mod SeenDictionary
pub use Rattle.key_core.specs as KeyCore
