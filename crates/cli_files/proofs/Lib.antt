pub mod FileStops
pub mod HeldKeys
pub use Rattle.doc_read.proofs as DocRead
