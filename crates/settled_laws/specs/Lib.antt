pub mod Settled
pub mod Imports
