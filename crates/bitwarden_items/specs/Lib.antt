pub mod Passwords
pub mod Versions
pub mod Seen
pub mod Proper
pub use Rattle.bitwarden_fields.specs as BitwardenFields
