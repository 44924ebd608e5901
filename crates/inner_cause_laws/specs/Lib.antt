pub mod Examples
pub mod InnerCauses
