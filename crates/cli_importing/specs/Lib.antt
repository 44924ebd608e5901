pub mod Answers
pub mod Imports
pub mod Held
pub mod SeenSource
