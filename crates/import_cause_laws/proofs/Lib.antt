pub mod Examples
pub mod SafeRefusals
pub mod TableRefusals
pub mod TreeRefusals
