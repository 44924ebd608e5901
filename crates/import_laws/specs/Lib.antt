pub mod Agreement
pub mod Losses
pub mod Names
