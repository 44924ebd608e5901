pub mod Stored
pub use Rattle.kdbx_payload.specs.KdbxInner
pub use Rattle.kdbx_payload.specs as KdbxPayload
