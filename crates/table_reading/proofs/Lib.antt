pub mod Examples
pub mod IsoTimes
pub mod Places
pub mod RecordRows
pub mod Gathered
pub mod Hosts
