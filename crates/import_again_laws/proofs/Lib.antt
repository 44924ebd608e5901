pub mod Newer
pub mod Later
pub mod Replaced
pub mod Moments
pub mod Sources
pub mod Replacing
pub use Rattle.import_laws.proofs as ImportLaws
