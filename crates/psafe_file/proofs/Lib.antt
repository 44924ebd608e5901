mod Blocks
pub mod Cuts
pub mod Marks
pub mod Openings
pub mod SafeForms
pub mod Steps
mod Turns
mod Examples
pub mod FieldCuts
pub mod Sections
