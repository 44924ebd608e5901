pub mod Attachments
pub mod Causes
pub mod Fields
pub mod Files
pub mod First
pub mod Versions
