pub mod Suffices
