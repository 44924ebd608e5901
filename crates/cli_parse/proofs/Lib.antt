pub mod Examples
pub mod IsoTimes
pub mod Keys
