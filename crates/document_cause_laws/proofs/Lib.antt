pub mod Answering
pub mod DocumentRefusals
pub mod Examples
pub mod NodeFaults
pub mod Passing
pub mod RowFaults
pub mod TreeRefusals
