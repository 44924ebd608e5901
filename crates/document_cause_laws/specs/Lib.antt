pub mod DocumentCauses
pub mod ElementFaults
pub mod ElementKinds
pub mod Examples
