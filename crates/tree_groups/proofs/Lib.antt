pub mod AfterMake
pub mod GroupPuts
pub mod Heights
pub mod MadeDoc
pub mod Slashes
pub use Rattle.tree_steps.proofs as TreeSteps
