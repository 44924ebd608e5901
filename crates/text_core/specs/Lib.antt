pub mod Fronts
pub mod Lanes
pub mod Parts
pub use Rattle.text_forms.specs as TextForms
