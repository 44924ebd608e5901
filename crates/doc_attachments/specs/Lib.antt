pub mod Lists
pub mod Pools
pub mod Trees
