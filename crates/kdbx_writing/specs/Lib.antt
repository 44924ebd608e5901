pub mod Pools
pub mod Draws
pub mod Fields
pub mod Header
pub mod Inner
pub mod Kdf
