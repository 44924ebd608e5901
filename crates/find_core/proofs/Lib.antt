pub mod Containing
pub mod Examples
pub mod FoldedTerms
pub mod Letters
