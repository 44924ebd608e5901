pub mod FreeCalls
pub mod Held
pub mod Steps
pub mod Runs
pub mod GoOn
