pub mod Example
pub mod Meeting
pub mod TypedRuns
