pub mod Sorted
pub mod OwnTree
pub mod Versions
pub mod Settled
pub mod Rising
pub mod Imports
pub mod Passwords
pub mod Exports
