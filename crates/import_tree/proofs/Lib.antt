pub mod Deep
pub mod Kept
pub mod Proper
pub mod Put
pub mod Apart
pub mod TakenApart
pub mod Levels
pub mod Placing
