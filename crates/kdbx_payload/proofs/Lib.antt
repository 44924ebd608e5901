mod BlockContents
mod Fed
mod Macs
pub mod SealedPayloads
mod StartBytes
pub mod Steps
pub mod Refusals
pub use Rattle.kdbx_frame.proofs as KdbxFrame
