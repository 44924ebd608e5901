pub mod Examples
pub mod ExportRefusals
pub mod OtherKinds
