pub mod Adding
pub mod Changed
