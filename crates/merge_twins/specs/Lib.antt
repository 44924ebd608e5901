pub mod Laws
pub mod Rules
pub mod Twins
