pub mod Earlier
pub mod Passwords
