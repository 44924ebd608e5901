pub mod Base64Groups
pub mod Escaped
pub mod Fitting
pub mod Puts
pub mod Spelling
pub mod WholeTexts
pub mod GatheredPairs
