pub mod Examples
pub mod InnerRefusals
