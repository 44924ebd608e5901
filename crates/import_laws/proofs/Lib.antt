pub mod Bare
pub mod Alike
pub mod Sources
pub mod Kept
pub mod Counted
