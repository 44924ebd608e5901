pub mod Salts
