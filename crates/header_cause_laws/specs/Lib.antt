pub mod Examples
pub mod FieldCauses
pub mod HeaderCauses
pub mod Headers
pub mod KeyCauses
