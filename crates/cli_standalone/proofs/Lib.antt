pub mod Examples
pub mod InOrder
