pub mod Bits
pub mod Blocks
pub mod ParameterLists
pub mod Parts
pub mod Places
pub mod Escapes
pub mod Numbers
pub mod Vectors
