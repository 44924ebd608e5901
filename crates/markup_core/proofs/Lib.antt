pub mod AttributeLemmas
pub mod Cuts
pub mod Left
pub mod Next
pub mod Soundness
pub mod Utf8Faults
