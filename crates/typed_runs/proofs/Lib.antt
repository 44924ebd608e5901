pub mod ExampleRun
pub mod Meeting
pub mod TypedLaws
