pub mod Again
pub mod Example
