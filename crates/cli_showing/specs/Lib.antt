pub mod History
pub mod Laws
pub mod Paths
pub mod Refusals
pub mod Showing
pub mod inside
