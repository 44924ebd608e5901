pub mod EmptyLaws
pub mod Later
