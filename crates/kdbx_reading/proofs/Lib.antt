mod StoredFiles
mod StoredLater
mod StoredPayloads
pub use Rattle.kdbx_payload.proofs as KdbxPayload
