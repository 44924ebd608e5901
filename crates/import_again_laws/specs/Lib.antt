pub mod Again
pub use Rattle.import_laws.specs as ImportLaws
