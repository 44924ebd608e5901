pub mod SelfTest
pub use Rattle.merge_again.specs.AgreedLaws
pub use Rattle.merge_again.specs.DocumentMerge
