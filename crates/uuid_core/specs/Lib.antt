pub mod Ids
