pub mod MomentTests
pub mod Moments
