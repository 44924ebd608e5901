pub mod Example
pub mod JoinLaws
pub mod Documents
pub mod Marking
pub mod Refusals
pub mod Laws
pub mod NodesBelow
