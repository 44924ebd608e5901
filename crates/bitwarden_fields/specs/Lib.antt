pub mod Keys
pub mod Said
pub mod Seen
pub use Rattle.bitwarden_forms.specs as BitwardenForms
pub use Rattle.bitwarden_forms.specs.ImportTree
