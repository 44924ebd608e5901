pub mod OtherKinds
pub mod ExportCauses
pub mod Examples
