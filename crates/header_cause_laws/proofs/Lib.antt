pub mod Examples
pub mod FieldFaults
pub mod Fields
pub mod HeaderRefusals
pub mod Items
pub mod KeyRefusals
pub mod Steps
