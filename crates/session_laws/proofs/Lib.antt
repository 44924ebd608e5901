pub mod Beginning
pub mod Files
pub mod LineCommands
pub mod Lines
pub mod Opening
pub mod Salts
pub mod Sessions
pub mod Written
