pub mod TextSteps
pub mod Documents
pub mod Trees
