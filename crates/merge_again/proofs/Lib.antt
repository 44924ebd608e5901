mod JoinAgain
pub mod MergeAgain
mod Stamps
pub use Rattle.agreed_laws.proofs as AgreedLaws
pub use Rattle.agreed_laws.proofs.MergeChecks
