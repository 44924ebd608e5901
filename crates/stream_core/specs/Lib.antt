pub mod Words
pub mod ChaCha20
pub mod Salsa20
pub mod Stream
pub mod Lanes
pub mod InnerStream
pub use Rattle.secret_core.specs.OutsideCore
