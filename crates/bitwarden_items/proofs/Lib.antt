pub mod Places
pub mod ProperVersions
