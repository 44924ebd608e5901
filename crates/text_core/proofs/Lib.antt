mod Base64Arrays
mod Literals
pub mod Digits
pub mod Escaping
pub mod LaneRuns
pub mod Unescaping
