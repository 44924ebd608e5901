pub mod Agreeing
pub mod FieldCauses
pub mod FileCauses
pub mod Steps
pub mod Tests
pub mod VersionCauses
