pub mod Examples
pub mod SafeCauses
pub mod TableCauses
pub mod Trees
