pub mod Messages
pub mod Phases
pub mod Pages
pub mod Texts
