pub mod Words
pub mod Blake2b
pub mod Compression
pub mod Pairs
pub mod Hasher
pub mod VariableHash
pub mod Argon2
pub mod Memory
