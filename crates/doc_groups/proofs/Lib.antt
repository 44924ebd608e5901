mod GroupWalks
mod Places
pub use Rattle.doc_entries.proofs.DocWalk
