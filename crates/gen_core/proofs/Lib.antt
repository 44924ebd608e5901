pub mod Choices
pub mod Evenness
pub mod Streams
mod Vectors
