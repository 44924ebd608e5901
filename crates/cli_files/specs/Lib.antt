pub mod Answers
pub mod Files
pub mod Held
pub mod LeavesFiles
pub mod SeenOpened
pub mod SomeFiles
pub mod SeenTask
pub mod Tasks
