pub mod RecordCodes
pub mod Shapes
