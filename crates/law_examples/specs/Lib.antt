pub mod Calls
pub mod Commands
pub mod Files
pub mod Histories
pub mod PlainCopies
