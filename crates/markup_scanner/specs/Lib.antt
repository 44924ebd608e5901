pub mod Asides
pub mod Lanes
pub mod Left
pub mod Numbers
pub mod Scans
pub mod Spans
pub mod Tags
pub mod Tokens
